-- The numbers at the objects so far.
use Rattle.std.proofs.Common.{◌≡◌, ℕ, take}
use Rattle.std.specs.List.{list_any}
use Rattle.homeo_outline.specs.Numbers.{has, clauses_on}
use Rattle.homeo_effect.proofs.uses.written_clauses.Given as goal

abbrev pub invariant-loop-object : goal.invariant-loop-object
invariant-loop-object l = (n : ℕ) → has n l.numbers.items ≡ list_any (λ x. has n (clauses_on x l.outline.terms)) (take l.object-index l.object-items)
