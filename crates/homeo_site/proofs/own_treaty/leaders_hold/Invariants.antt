use Rattle.std.proofs.Common.{◌≡◌, ℕ, true, take}
use Rattle.homeo_meaning.specs.Serial.{values_of}
use Rattle.homeo_outline.specs.Numbers.{has}
use Rattle.homeo_site.specs.inner.PlanFailures.{HoldLed}
use Rattle.homeo_site.proofs.own_treaty.leaders_hold.Given as goal

abbrev pub invariant-loop-number : goal.invariant-loop-number
invariant-loop-number l = (n : ℕ) → has n (take l.number-index l.leaders) ≡ true → HoldLed l.plan l.site (values_of l.deltas) n
