use Rattle.std.proofs.Common.{◌≡◌, true, List, take}
use Rattle.homeo_outline.specs.Numbers.{has}
use Rattle.homeo_forecast.specs.Visits.{Visit}
use Rattle.homeo_forecast.specs.inner.Raising.{Raises}
use Rattle.homeo_forecast.proofs.raising.raise_clauses.Given as goal

abbrev pub invariant-loop-number : goal.invariant-loop-number
invariant-loop-number l =
    (vs : List Visit) → Raises l.plan vs l.site l.deltas (λ n. has n (take l.number-index l.numbers) ≡ true) l.initial.rooms l.rooms
