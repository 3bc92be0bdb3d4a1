-- The terms from the place on are added up.
use Rattle.std.proofs.Common.{◌≤◌, drop, length}
use Rattle.homeo_form.specs.inner.Terms.{AreAddedUp}
use Rattle.homeo_form.proofs.terms.are_added_up.Given as goal

abbrev pub invariant-loop-place : goal.invariant-loop-place
invariant-loop-place l = record {
  within : l.place ≤ length l.terms;
  added_up : AreAddedUp (drop l.place l.terms);
}

abbrev pub decreases-loop-place : goal.decreases-loop-place
decreases-loop-place l = l.place
