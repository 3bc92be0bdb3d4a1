use Rattle.std.proofs.Common.{List}
use Rattle.homeo_site.specs.StandsOn.{StandsOnOne}
use Rattle.homeo_forecast.specs.Visits.{Visit}
use Rattle.homeo_forecast.specs.inner.Raising.{Raises}
use Rattle.homeo_forecast.proofs.raising.raise_all.Given as goal

abbrev pub invariant-loop-object : goal.invariant-loop-object
invariant-loop-object l =
    (vs : List Visit) → Raises l.plan vs l.site l.deltas (StandsOnOne l.plan l.written l.object-index) l.initial.rooms l.rooms
