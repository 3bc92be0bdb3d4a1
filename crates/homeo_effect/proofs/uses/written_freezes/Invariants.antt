-- The numbers at the objects so far.
use Rattle.std.proofs.Common.{◌≡◌, ℕ, take}
use Rattle.std.specs.List.{list_any}
use Rattle.homeo_outline.specs.Numbers.{has}
use Rattle.homeo_effect.specs.inner.Uses.{freezes_at}
use Rattle.homeo_effect.proofs.uses.written_freezes.Given as goal

abbrev pub invariant-loop-object : goal.invariant-loop-object
invariant-loop-object l = (n : ℕ) → has n l.numbers.items ≡ list_any (λ x. has n (freezes_at x l.site l.outline)) (take l.object-index l.object-items)
