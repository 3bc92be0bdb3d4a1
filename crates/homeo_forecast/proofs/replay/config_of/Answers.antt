use Rattle.std.proofs.Common.{◌∙◌, [], ℤ, pos, map, ap, arith}
use Rattle.homeo_lemmas.proofs.Lists.{take_past}
use Rattle.homeo_syntax.specs.Listed.{Listed}
use Rattle.homeo_plan.specs.Template.{Clause}
use Rattle.homeo_forecast.specs.Peaks.{peak_config}
use Rattle.homeo_forecast.proofs.ReplayLists.{no_config, one_bounds}
use Rattle.homeo_forecast.proofs.RoomLists.{room_at, bound_there}
use Rattle.homeo_forecast.proofs.replay.config_of.Goals as goal

none : Clause
none = record { terms = []; slack = pos 0 }

pub loop-room-init : goal.loop-room-init
loop-room-init c = λ k vs cs rooms.
    ap (λ (l : Listed (Listed ℤ)). map (λ (b : Listed ℤ). b.items) l.items) c.new-bounds.ensures ∙ no_config k vs

pub bounds-requires-clause-site : goal.bounds-requires-clause-site
bounds-requires-clause-site c =
    (bound_there c.args.rooms.now c.loop-room.room-index c.room-item.result c.requires c.loop-room-test.true c.room-item.is).0

pub bounds-requires-clause-fits : goal.bounds-requires-clause-fits
bounds-requires-clause-fits c =
    (bound_there c.args.rooms.now c.loop-room.room-index c.room-item.result c.requires c.loop-room-test.true c.room-item.is).1

pub loop-room-preserved : goal.loop-room-preserved
loop-room-preserved c = λ k vs cs rooms.
    let n = c.loop-room.room-index in
    one_bounds k vs cs n none _ _ c.in_ok-bounds.field-0 (omega (arith, c.loop-room-test.true, rooms.count))
    (c.loop-room.invariant k vs cs rooms)
    (c.in_ok-bounds.ensures k vs _ (room_at k vs cs c.args.rooms.now n none c.room-item.result rooms c.loop-room-test.true c.room-item.is))
    (ap (λ (l : Listed (Listed ℤ)). l.items) c.in_ok-push.ensures.ok)

pub returns : goal.returns
returns c = λ k vs cs rooms.
    c.loop-room.invariant k vs cs rooms ∙ ap (peak_config k vs) (take_past cs c.loop-room.room-index (omega (arith, c.loop-room-test.false, rooms.count)))
