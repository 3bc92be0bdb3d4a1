use Rattle.std.proofs.Common.{◌≡◌, ◌∙◌, ap, arith, pos, slice_set, to_z, of_z}
use Rattle.std.specs.Int.{w128}
use Rattle.std.proofs.lemmas.Int.{ints}
use Rattle.homeo_forecast.proofs.RoomSteps.{bounds_are}
use Rattle.homeo_forecast.proofs.rooms.Room.bounds.Goals as goal

pub returns : goal.returns
returns c = λ k vs cl room.
    let whole : to_z w128 (of_z w128 c.first_bound-first.result) ≡ c.first_bound-first.result = omega (arith, ints, c.first_bound-first.type_inv) in
    bounds_are k vs cl c.args.self.now _ c.first_bound-first.result (pos 0) room
    (c.in_ok-bounds.ensures ∙ ap (λ z. slice_set c.args.self.now.peaks.items 0 z) whole) c.first_bound-first.ensures c.requires.site
