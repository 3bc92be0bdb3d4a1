-- What the prints that are left put into what is needed so far.
use Rattle.std.proofs.Common.{◌≡◌, [], length}
use Rattle.homeo_plan.specs.Linear.{add_deltas}
use Rattle.homeo_follow.specs.Follow.{print_needs}
use Rattle.homeo_linear.proofs.course.needed.Given as goal

abbrev pub invariant-loop-form : goal.invariant-loop-form
invariant-loop-form l =
    print_needs l.prints.items (add_deltas l.needed.items []) ≡ print_needs l.initial.prints.items (add_deltas l.initial.needed.items [])

abbrev pub decreases-loop-form : goal.decreases-loop-form
decreases-loop-form l = length l.prints.items
