-- The number stands behind those of its object.
use Rattle.std.proofs.Common.{◌==◌, ◌++◌, [], ◌∷◌, cond, ap, ◌∙◌, arith}
use Rattle.homeo_outline.proofs.Noting.{noted}
use Rattle.homeo_outline.proofs.uses.note.Goals as goal

pub returns : goal.returns
returns c x =
    noted (λ v. v.items) c.loop-alloc.uses.items c.args.object c.index_mut.result.now c.push-2.new.self c.args.number (omega (arith, c.loop-alloc-test.false, c.len.ensures)) c.index_mut.ensures.value c.in_ok-push-2.ensures.ok x
    ∙ ap (λ ns. cond (c.args.object == x) (ns ++ c.args.number ∷ []) ns) (c.loop-alloc.invariant x)
