-- What the prints that are left put into what is needed so far.
use Rattle.std.proofs.Common.{◌≡◌, [], map, length}
use Rattle.homeo_atoms.specs.inner.Following.{adds}
use Rattle.homeo_plan.specs.Linear.{add_deltas}
use Rattle.homeo_atoms.proofs.following.Following.needs.Given as goal

abbrev pub invariant-loop-deltas : goal.invariant-loop-deltas
invariant-loop-deltas l =
    adds (map (λ p. p.items) l.prints.items) (add_deltas l.needed.items [])
    ≡ adds (map (λ p. p.items) l.initial.prints.items) (add_deltas l.initial.needed.items [])

abbrev pub decreases-loop-deltas : goal.decreases-loop-deltas
decreases-loop-deltas l = length l.prints.items
