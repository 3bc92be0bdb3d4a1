-- One more number, and all of them.
use Rattle.homeo_meaning.specs.Serial.{values_of}
use Rattle.homeo_plan.specs.Key.{definitions as plan_definitions}
use Rattle.homeo_site.specs.Key.{definitions}
use Rattle.homeo_site.specs.inner.Failures.{clause_number, own_freeze_failure}
use Rattle.homeo_site.proofs.Earliest.{none_yet, number_more, numbers_all}
use Rattle.homeo_site.proofs.PlanChecks.{frozen_named}
use Rattle.homeo_site.proofs.own_treaty.earliest_freeze.Goals as goal

pub loop-number-init : goal.loop-number-init
loop-number-init c = none_yet clause_number _ c.args.numbers.now

pub loop-number-preserved : goal.loop-number-preserved
unfolding definitions plan_definitions
loop-number-preserved c =
    let x = values_of c.args.deltas.now in
    number_more clause_number (own_freeze_failure c.args.first c.args.site c.args.freezes.now x) c.args.numbers.now c.loop-number.number-index 0
    c.loop-number-test.true (λ n b. frozen_named n b c.args.first c.args.site c.args.freezes.now x) c.loop-number.found
    c.freeze_failure-failure.result c.earlier-found.result c.loop-number.invariant c.freeze_failure-failure.ensures c.earlier-found.ensures

pub returns : goal.returns
returns c =
    numbers_all clause_number (own_freeze_failure c.args.first c.args.site c.args.freezes.now (values_of c.args.deltas.now)) c.args.numbers.now
    c.loop-number.number-index c.loop-number-test.false c.loop-number.found c.loop-number.invariant
