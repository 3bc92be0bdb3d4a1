-- One more number, and all of them.
use Rattle.homeo_meaning.specs.Serial.{values_of}
use Rattle.homeo_plan.specs.Key.{definitions as plan_definitions}
use Rattle.homeo_site.proofs.Earliest.{none_yet, number_more, numbers_all}
use Rattle.homeo_forecast.specs.Key.{definitions}
use Rattle.homeo_forecast.specs.inner.Stops.{stop_number, freeze_stop_at}
use Rattle.homeo_forecast.proofs.PlanStops.{freeze_numbered}
use Rattle.homeo_forecast.proofs.stops.earliest_freeze.Goals as goal

pub loop-number-init : goal.loop-number-init
loop-number-init c = none_yet stop_number _ c.args.numbers.now

pub loop-number-preserved : goal.loop-number-preserved
unfolding definitions plan_definitions
loop-number-preserved c =
    let x = values_of c.args.deltas.now in
    number_more stop_number (freeze_stop_at c.args.first c.args.site x c.args.freezes.now) c.args.numbers.now c.loop-number.number-index 0
    c.loop-number-test.true (λ n s. freeze_numbered n s c.args.first c.args.site x c.args.freezes.now) _ _ _ c.loop-number.invariant
    c.freeze_stop-stop.ensures c.earlier-found.ensures

pub returns : goal.returns
returns c =
    numbers_all stop_number (freeze_stop_at c.args.first c.args.site (values_of c.args.deltas.now) c.args.freezes.now) c.args.numbers.now
    c.loop-number.number-index c.loop-number-test.false _ c.loop-number.invariant
