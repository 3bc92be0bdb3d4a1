-- What stops earliest of what stands on the first objects.
use Rattle.std.proofs.Common.{List, option_map}
use Rattle.homeo_site.specs.Earliest.{IsEarliest}
use Rattle.homeo_site.specs.StandsOn.{StandsOnOne}
use Rattle.homeo_forecast.specs.View.{plain_stop}
use Rattle.homeo_forecast.specs.Visits.{Visit}
use Rattle.homeo_forecast.specs.inner.Raising.{own_visit, with_own}
use Rattle.homeo_forecast.specs.inner.Rooms.{AreRooms}
use Rattle.homeo_forecast.specs.inner.Stops.{stop_number, plan_stop}
use Rattle.homeo_forecast.proofs.stops.first_stop.Given as goal

abbrev pub invariant-loop-object : goal.invariant-loop-object
invariant-loop-object l =
    (vs : List Visit) → AreRooms l.plan vs l.rooms →
    IsEarliest stop_number (plan_stop l.plan (with_own vs l.site l.deltas) (own_visit l.site l.deltas)) (StandsOnOne l.plan l.written l.object-index)
    (option_map plain_stop l.found)
