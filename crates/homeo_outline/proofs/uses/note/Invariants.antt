-- Room for the object: no number stands there yet.
use Rattle.std.proofs.Common.{◌≡◌, ℕ, ◌+◌, ◌-◌, length, map}
use Rattle.homeo_outline.specs.inner.Uses.{at_object}
use Rattle.homeo_outline.proofs.uses.note.Given as goal

abbrev pub invariant-loop-alloc : goal.invariant-loop-alloc
invariant-loop-alloc l = (x : ℕ) → at_object x (map (λ v. v.items) l.uses.items) ≡ at_object x (map (λ v. v.items) l.fn.uses.items)

abbrev pub decreases-loop-alloc : goal.decreases-loop-alloc
decreases-loop-alloc l = l.object + 1 - length l.uses.items
