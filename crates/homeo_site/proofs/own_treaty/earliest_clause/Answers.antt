-- One more number, and all of them.
use Rattle.homeo_meaning.specs.Serial.{values_of}
use Rattle.homeo_outline.specs.ObjectPlan.{template_in, config_in}
use Rattle.homeo_site.specs.inner.Failures.{clause_number, own_failure}
use Rattle.homeo_site.specs.OwnTreaty.{own_clauses}
use Rattle.homeo_site.proofs.Earliest.{none_yet, number_more, numbers_all}
use Rattle.homeo_site.proofs.PlanChecks.{clause_named}
use Rattle.homeo_site.proofs.own_treaty.earliest_clause.Goals as goal

pub clause_failure-failure-requires-clause-number : goal.clause_failure-failure-requires-clause-number
clause_failure-failure-requires-clause-number c = c.requires.numbers c.loop-number.number-index 0 c.loop-number-test.true

pub loop-number-init : goal.loop-number-init
loop-number-init c = none_yet clause_number _ c.args.numbers.now

pub loop-number-preserved : goal.loop-number-preserved
loop-number-preserved c =
    let p = c.args.plan.now in
    let cs = own_clauses c.args.site (template_in p).clauses (config_in p) in
    let x = values_of c.args.deltas.now in
    number_more clause_number (own_failure cs x) c.args.numbers.now c.loop-number.number-index 0 c.loop-number-test.true
    (λ n b. clause_named n b cs x) c.loop-number.found c.clause_failure-failure.result c.earlier-found.result c.loop-number.invariant
    c.clause_failure-failure.ensures c.earlier-found.ensures

pub returns : goal.returns
returns c =
    let p = c.args.plan.now in
    numbers_all clause_number (own_failure (own_clauses c.args.site (template_in p).clauses (config_in p)) (values_of c.args.deltas.now)) c.args.numbers.now
    c.loop-number.number-index c.loop-number-test.false c.loop-number.found c.loop-number.invariant
