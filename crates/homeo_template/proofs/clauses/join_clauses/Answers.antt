-- The clauses of one set of atoms after another.
use Rattle.std.proofs.Common.{◌∙◌}
use Rattle.homeo_template.proofs.Appending.{no-sets, sets_more}
use Rattle.homeo_template.proofs.clauses.join_clauses.Goals as goal

pub loop-set-init : goal.loop-set-init
loop-set-init c = c.in_ok-distinct.ensures ∙ no-sets

pub loop-set-preserved : goal.loop-set-preserved
loop-set-preserved c =
    sets_more c.args.sets.now c.loop-set.set-index c.set-item.result c.loop-set-test.true c.set-item.is _ c.as_slice.ensures _ _ c.loop-set.invariant c.in_ok-put_all.ensures
