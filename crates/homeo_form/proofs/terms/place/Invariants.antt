-- From the place on none stands before the delta.
use Rattle.std.proofs.Common.{◌≤◌, length, drop}
use Rattle.homeo_plan.specs.Linear.{deltas_of}
use Rattle.homeo_form.specs.inner.Order.{BeginsBehind}
use Rattle.homeo_form.proofs.terms.place.Given as goal

abbrev pub invariant-loop-place : goal.invariant-loop-place
invariant-loop-place l = record {
  within : l.place ≤ length l.terms;
  behind : BeginsBehind l.delta (drop l.place (deltas_of l.terms));
}

abbrev pub decreases-loop-place : goal.decreases-loop-place
decreases-loop-place l = l.place
