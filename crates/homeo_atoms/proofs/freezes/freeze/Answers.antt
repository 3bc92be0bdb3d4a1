-- Each delta is put at its place in the order.
use Rattle.homeo_atoms.specs.inner.Frozen.{deltas_in}
use Rattle.homeo_atoms.proofs.Putting.{no-deltas}
use Rattle.homeo_atoms.proofs.Freezing.{frozen_more}
use Rattle.homeo_atoms.proofs.freezes.freeze.Goals as goal

pub loop-delta-init : goal.loop-delta-init
loop-delta-init c = no-deltas (deltas_in c.args.frozen.now)

pub loop-delta-preserved : goal.loop-delta-preserved
loop-delta-preserved c =
    frozen_more c.args.deltas.now c.loop-delta.delta-index _ c.place_of.result c.loop-delta-test.true c.place_of.ensures _ _ _ c.loop-delta.invariant c.in_ok-insert.ensures.keys
