-- One more number, and all of them.
use Rattle.homeo_outline.specs.ObjectPlan.{template_in}
use Rattle.homeo_site.proofs.Earliest.{none_yet, number_more, numbers_all}
use Rattle.homeo_forecast.specs.inner.Raising.{with_own}
use Rattle.homeo_forecast.specs.inner.Stops.{stop_number, clause_stop_at}
use Rattle.homeo_forecast.proofs.PlanStops.{clause_numbered}
use Rattle.homeo_forecast.proofs.stops.earliest_clause.Goals as goal

pub loop-number-init : goal.loop-number-init
loop-number-init c = λ vs rooms. none_yet stop_number _ c.args.numbers.now

pub clause_stop-requires-clause-number : goal.clause_stop-requires-clause-number
clause_stop-requires-clause-number c = c.requires.numbers c.loop-number.number-index 0 c.loop-number-test.true

pub loop-number-preserved : goal.loop-number-preserved
loop-number-preserved c = λ vs rooms.
    let p = c.args.plan.now in
    let us = with_own vs c.args.site c.args.deltas.now in
    let cs = (template_in p).clauses in
    number_more stop_number (clause_stop_at p.outline.value.sites us cs) c.args.numbers.now c.loop-number.number-index 0 c.loop-number-test.true
    (λ n s. clause_numbered n s p.outline.value.sites us cs) _ _ _ (c.loop-number.invariant vs rooms) (c.in_ok-stop.ensures vs rooms) c.earlier-found.ensures

pub returns : goal.returns
returns c = λ vs rooms.
    let p = c.args.plan.now in
    numbers_all stop_number (clause_stop_at p.outline.value.sites (with_own vs c.args.site c.args.deltas.now) (template_in p).clauses) c.args.numbers.now
    c.loop-number.number-index c.loop-number-test.false _ (c.loop-number.invariant vs rooms)
