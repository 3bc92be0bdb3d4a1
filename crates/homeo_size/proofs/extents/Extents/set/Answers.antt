-- The entry is logged and then changed.
use Rattle.std.proofs.lemmas.Result.{on_ok_weaker}
use Rattle.homeo_size.specs.inner.Key.{definitions}
use Rattle.homeo_size.specs.inner.Tables.{sizes_in}
use Rattle.homeo_size.proofs.Tables.{set_is}
use Rattle.std.proofs.Common.{◌∙◌}
use Rattle.homeo_size.proofs.extents.Extents.set.Goals as goal

pub returns : goal.returns
unfolding definitions
returns c =
    on_ok_weaker c.put.result
    (λ h. set_is (sizes_in c.args.self.now) (sizes_in c.put.new.self) c.args.self.now.log.items c.put.new.self.log.items c.kept-kept.result c.args.entry c.args.extent c.kept-kept.ensures h (c.put.ensures.log ∙ c.in_ok-push.ensures.items))
    c.put.ensures.sizes
