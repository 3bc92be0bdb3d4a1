use Rattle.std.proofs.Common.{[], take}
use Rattle.homeo_outline.specs.ObjectPlan.{template_in}
use Rattle.homeo_forecast.specs.inner.Rooms.{HaveRooms}
use Rattle.homeo_forecast.proofs.replay.new_rooms.Given as goal

abbrev pub invariant-loop-clause : goal.invariant-loop-clause
invariant-loop-clause l = HaveRooms l.plan.outline.value.sites [] (take l.clause (template_in l.plan).clauses) l.rooms.items
