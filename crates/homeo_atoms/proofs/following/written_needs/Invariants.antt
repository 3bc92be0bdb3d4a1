-- What the deltas from the place on need.
use Rattle.std.proofs.Common.{◌≡◌, ◌≤◌, [], drop, length}
use Rattle.homeo_plan.specs.Linear.{add_deltas}
use Rattle.homeo_plan.specs.Needs.{written_needs}
use Rattle.homeo_form.specs.Standing.{forms_of}
use Rattle.homeo_atoms.proofs.following.written_needs.Given as goal

abbrev pub invariant-loop-place : goal.invariant-loop-place
invariant-loop-place l = record {
  within : l.place ≤ length l.written;
  needed : add_deltas l.needed.items [] ≡ written_needs l.site (forms_of l.standing) (drop l.place l.written);
}

abbrev pub decreases-loop-place : goal.decreases-loop-place
decreases-loop-place l = l.place
