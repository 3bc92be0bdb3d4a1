-- What the gains of the objects from the place on depend on.
use Rattle.std.proofs.Common.{◌≡◌, ◌≤◌, ℕ, ℤ, [], map, drop, length}
use Rattle.homeo_plan.specs.Linear.{add_deltas}
use Rattle.homeo_follow.specs.Follow.{write_needs}
use Rattle.homeo_form.specs.Standing.{forms_of}
use Rattle.homeo_linear.proofs.course.gained.Given as goal

abbrev pub invariant-loop-place : goal.invariant-loop-place
invariant-loop-place l = record {
  within : l.place ≤ length l.written;
  needed : (b : ℕ → ℤ) → add_deltas l.needed.items [] ≡ write_needs b (forms_of l.standing) (map (λ d. d.object) (drop l.place l.written));
}

abbrev pub decreases-loop-place : goal.decreases-loop-place
decreases-loop-place l = l.place
