-- What fails earliest of the first numbers.
use Rattle.std.proofs.Common.{◌≡◌, true, take}
use Rattle.homeo_meaning.specs.Serial.{values_of}
use Rattle.homeo_outline.specs.Numbers.{has}
use Rattle.homeo_site.specs.Earliest.{IsEarliest}
use Rattle.homeo_site.specs.inner.Failures.{clause_number, own_freeze_failure}
use Rattle.homeo_site.proofs.own_treaty.earliest_freeze.Given as goal

abbrev pub invariant-loop-number : goal.invariant-loop-number
invariant-loop-number l =
    IsEarliest clause_number (own_freeze_failure l.first l.site l.freezes (values_of l.deltas)) (λ n. has n (take l.number-index l.numbers) ≡ true) l.found
