-- What stops earliest of the first numbers.
use Rattle.std.proofs.Common.{◌≡◌, true, List, take, option_map}
use Rattle.homeo_outline.specs.Numbers.{has}
use Rattle.homeo_outline.specs.ObjectPlan.{template_in}
use Rattle.homeo_site.specs.Earliest.{IsEarliest}
use Rattle.homeo_forecast.specs.View.{plain_stop}
use Rattle.homeo_forecast.specs.Visits.{Visit}
use Rattle.homeo_forecast.specs.inner.Raising.{with_own}
use Rattle.homeo_forecast.specs.inner.Rooms.{AreRooms}
use Rattle.homeo_forecast.specs.inner.Stops.{stop_number, clause_stop_at}
use Rattle.homeo_forecast.proofs.stops.earliest_clause.Given as goal

abbrev pub invariant-loop-number : goal.invariant-loop-number
invariant-loop-number l =
    (vs : List Visit) → AreRooms l.plan vs l.rooms →
    IsEarliest stop_number (clause_stop_at l.plan.outline.value.sites (with_own vs l.site l.deltas) (template_in l.plan).clauses)
    (λ n. has n (take l.number-index l.numbers) ≡ true) (option_map plain_stop l.found)
