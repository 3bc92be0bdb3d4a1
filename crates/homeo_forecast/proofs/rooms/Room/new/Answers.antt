use Rattle.std.proofs.Common.{◌≡◌, ◌^◌, ◌<ℤ◌, ◌∙◌, pos, sym, subst, arith, to_z, of_z}
use Rattle.std.specs.Int.{w128}
use Rattle.std.proofs.lemmas.Int.{ints}
use Rattle.homeo_forecast.proofs.RoomSteps.{new_room}
use Rattle.homeo_forecast.proofs.rooms.Room.new.Goals as goal

pub returns : goal.returns
returns c = λ cl same.
    let slack = c.args.slack in
    let whole : to_z w128 (of_z w128 slack) ≡ slack = omega (arith, ints, c.ranges.slack) in
    let small : slack <ℤ pos (2 ^ 127) = omega (arith, ints, c.ranges.slack) in
    new_room c.args.sites cl _ (whole ∙ sym same) c.in_ok-peaks.ensures (whole ∙ sym same) (subst (λ z. z <ℤ pos (2 ^ 127)) (sym same) small)
