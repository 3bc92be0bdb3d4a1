-- Each change is taken back, the last one first.
use Rattle.std.proofs.Common.{arith, ap, sym, ◌∙◌, [], ◌∷◌, ◌++◌}
use Rattle.homeo_size.specs.inner.Key.{definitions}
use Rattle.homeo_size.specs.inner.Tables.{sizes_in}
use Rattle.homeo_size.proofs.Tables.{back_pop, nothing_back}
use Rattle.homeo_size.proofs.extents.Extents.take_back.Goals as goal

pub loop-self-preserved-in-Continue-1 : goal.loop-self-preserved-in-Continue-1
unfolding definitions
loop-self-preserved-in-Continue-1 c =
    back_pop c.args.start (sizes_in c.loop-self.self) (sizes_in c.put.new.self) c.put.new.self.log.items c.loop-self.self.log.items c.in-Some.kept (c.in-Some.ensures.items ∙ ap (λ l. l ++ c.in-Some.kept ∷ []) (sym c.in_ok-put-in-Some.ensures.log)) (omega arith) c.in_ok-put-in-Some.ensures.sizes
    ∙ c.loop-self.invariant

pub returns : goal.returns
unfolding definitions
returns c = nothing_back c.args.start (sizes_in c.loop-self.self) c.loop-self.self.log.items (omega arith) ∙ c.loop-self.invariant
