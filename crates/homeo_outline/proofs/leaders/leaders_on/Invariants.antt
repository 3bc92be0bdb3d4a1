use Rattle.std.proofs.Common.{◌≡◌, ℕ, true, take}
use Rattle.homeo_outline.specs.Leaders.{IsLed}
use Rattle.homeo_outline.specs.Numbers.{has}
use Rattle.homeo_outline.proofs.leaders.leaders_on.Given as goal

abbrev pub invariant-loop-number : goal.invariant-loop-number
invariant-loop-number l = (n : ℕ) → has n (take l.number-index l.clauses) ≡ true → IsLed l.outline.terms l.slacks l.leaders.items n
