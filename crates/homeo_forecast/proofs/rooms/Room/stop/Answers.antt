use Rattle.std.proofs.Common.{◌≡◌, ◌∙◌, ap, refl, arith, Some, slice_set, to_z, of_z}
use Rattle.std.specs.Int.{w128}
use Rattle.std.proofs.lemmas.Int.{ints}
use Rattle.homeo_forecast.proofs.RoomSteps.{none_stops, spent_stops}
use Rattle.homeo_forecast.proofs.rooms.Room.stop.Goals as goal

pub returns-then-has : goal.returns-then-has
returns-then-has c = λ k vs cl v room at lt is.
    let whole : to_z w128 (of_z w128 c.args.sum) ≡ c.args.sum = omega (arith, ints, c.ranges.sum) in
    none_stops k vs cl v c.args.site c.args.sum c.args.self.now room at lt is (c.if-has.ensures.fits k vs cl v room at lt (whole ∙ is) refl) c.args.clause

pub returns : goal.returns
returns c = λ k vs cl v room at lt is.
    let whole : to_z w128 (of_z w128 c.args.sum) ≡ c.args.sum = omega (arith, ints, c.ranges.sum) in
    let same : to_z w128 (of_z w128 c.args.self.now.slack) ≡ c.args.self.now.slack = omega (arith, ints) in
    ap Some c.spent.ensures
    ∙ spent_stops k vs cl v c.args.site c.args.sum c.args.self.now room at lt is (c.if-has.ensures.over k vs cl v room at lt (whole ∙ is) refl)
    c.requires.room c.args.clause _ _ (c.in_ok-peaks.ensures ∙ ap (λ z. slice_set c.args.self.now.peaks.items c.args.site z) whole) same
