use Rattle.std.proofs.Common.{◌≡◌, ℕ, ℤ, List, map, take}
use Rattle.homeo_syntax.specs.Listed.{Listed}
use Rattle.homeo_plan.specs.Template.{Clause}
use Rattle.homeo_forecast.specs.Peaks.{peak_config}
use Rattle.homeo_forecast.specs.Visits.{Visit}
use Rattle.homeo_forecast.specs.inner.Rooms.{HaveRooms}
use Rattle.homeo_forecast.proofs.replay.config_of.Given as goal

abbrev pub invariant-loop-room : goal.invariant-loop-room
invariant-loop-room l =
    (k : ℕ) (vs : List Visit) (cs : List Clause) → HaveRooms k vs cs l.rooms →
    map (λ (b : Listed ℤ). b.items) l.bounds.items ≡ peak_config k vs (take l.room-index cs)
