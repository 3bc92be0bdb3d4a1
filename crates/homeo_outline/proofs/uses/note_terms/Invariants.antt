-- The terms so far.
use Rattle.std.proofs.Common.{◌≡◌, ℕ, ◌==◌, ◌&&◌, map, take}
use Rattle.std.specs.Prelude.{◌||◌}
use Rattle.homeo_outline.specs.Numbers.{has, names_object}
use Rattle.homeo_outline.specs.inner.Uses.{at_object}
use Rattle.homeo_outline.proofs.uses.note_terms.Given as goal

abbrev pub invariant-loop-term : goal.invariant-loop-term
invariant-loop-term l =
    (x n : ℕ) → has n (at_object x (map (λ v. v.items) l.uses.items)) ≡
    (has n (at_object x (map (λ v. v.items) l.fn.uses.items)) || (names_object x (take l.term-index l.terms) && (n == l.number)))
