-- One more object, and all of them.
use Rattle.homeo_site.proofs.OnObjects.{no_object_yet, object_more}
use Rattle.homeo_forecast.specs.inner.Raising.{own_visit, with_own}
use Rattle.homeo_forecast.specs.inner.Stops.{stop_number, plan_stop}
use Rattle.homeo_forecast.proofs.PlanStops.{first_of_all}
use Rattle.homeo_forecast.proofs.stops.first_stop.Goals as goal

pub loop-object-init : goal.loop-object-init
loop-object-init c = λ vs rooms.
    no_object_yet c.args.plan.now stop_number
    (plan_stop c.args.plan.now (with_own vs c.args.site c.args.deltas.now) (own_visit c.args.site c.args.deltas.now)) c.args.written.now

pub loop-object-preserved : goal.loop-object-preserved
loop-object-preserved c = λ vs rooms.
    object_more c.args.plan.now stop_number
    (plan_stop c.args.plan.now (with_own vs c.args.site c.args.deltas.now) (own_visit c.args.site c.args.deltas.now)) c.args.written.now
    c.loop-object.object-index _ _ _ (c.loop-object.invariant vs rooms) (c.in_ok-stop.ensures vs rooms) c.earlier-found.ensures

pub returns : goal.returns
returns c = λ vs before rooms stands same.
    first_of_all c.args.plan.now vs (own_visit c.args.site c.args.deltas.now) c.requires.sums.below before c.args.written.now same stands
    c.loop-object.object-index c.loop-object-test.false _ (c.loop-object.invariant vs rooms)
