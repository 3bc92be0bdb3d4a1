-- What stops earliest of the first numbers.
use Rattle.std.proofs.Common.{◌≡◌, true, take, option_map}
use Rattle.homeo_meaning.specs.Serial.{values_of}
use Rattle.homeo_outline.specs.Numbers.{has}
use Rattle.homeo_site.specs.Earliest.{IsEarliest}
use Rattle.homeo_forecast.specs.View.{plain_stop}
use Rattle.homeo_forecast.specs.inner.Stops.{stop_number, freeze_stop_at}
use Rattle.homeo_forecast.proofs.stops.earliest_freeze.Given as goal

abbrev pub invariant-loop-number : goal.invariant-loop-number
invariant-loop-number l =
    IsEarliest stop_number (freeze_stop_at l.first l.site (values_of l.deltas) l.freezes)
    (λ n. has n (take l.number-index l.numbers) ≡ true) (option_map plain_stop l.found)
