-- The deltas from the place on are in order.
use Rattle.std.proofs.Common.{◌≤◌, drop, length}
use Rattle.homeo_plan.specs.Linear.{AreInOrder}
use Rattle.homeo_form.proofs.deltas.are_in_order.Given as goal

abbrev pub invariant-loop-place : goal.invariant-loop-place
invariant-loop-place l = record {
  within : l.place ≤ length l.deltas;
  ordered : AreInOrder (drop l.place l.deltas);
}

abbrev pub decreases-loop-place : goal.decreases-loop-place
decreases-loop-place l = l.place
