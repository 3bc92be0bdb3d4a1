-- From the place on none stands before the delta.
use Rattle.std.proofs.Common.{◌≤◌, length, drop}
use Rattle.homeo_form.specs.inner.Order.{BeginsBehind}
use Rattle.homeo_form.proofs.deltas.place.Given as goal

abbrev pub invariant-loop-place : goal.invariant-loop-place
invariant-loop-place l = record {
  within : l.place ≤ length l.deltas;
  behind : BeginsBehind l.delta (drop l.place l.deltas);
}

abbrev pub decreases-loop-place : goal.decreases-loop-place
decreases-loop-place l = l.place
