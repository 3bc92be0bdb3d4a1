-- What one atom after another mixes.
use Rattle.homeo_atoms.specs.inner.Frozen.{deltas_in}
use Rattle.homeo_atoms.proofs.Putting.{nothing-put, mixed_more}
use Rattle.homeo_atoms.proofs.freezes.freeze_mixed.Goals as goal

pub loop-atom-init : goal.loop-atom-init
loop-atom-init c = nothing-put (deltas_in c.args.frozen.now)

pub loop-atom-preserved : goal.loop-atom-preserved
loop-atom-preserved c =
    mixed_more c.args.atoms.now c.loop-atom.atom-index c.atom-item.result c.loop-atom-test.true c.atom-item.is _ c.as_slice.ensures _ _ _ c.loop-atom.invariant c.in_ok-freeze.ensures
