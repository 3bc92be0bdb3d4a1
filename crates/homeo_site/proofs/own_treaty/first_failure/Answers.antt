-- One more object, and all of them.
use Rattle.homeo_meaning.specs.Serial.{values_of}
use Rattle.homeo_site.specs.inner.Failures.{clause_number}
use Rattle.homeo_site.specs.inner.PlanFailures.{plan_failure}
use Rattle.homeo_site.proofs.OnObjects.{no_object_yet, object_more}
use Rattle.homeo_site.proofs.PlanChecks.{finding_of}
use Rattle.homeo_site.proofs.own_treaty.first_failure.Goals as goal

pub loop-object-init : goal.loop-object-init
loop-object-init c = no_object_yet c.args.plan.now clause_number (plan_failure c.args.plan.now c.args.site (values_of c.args.deltas.now)) c.args.written.now

pub loop-object-preserved : goal.loop-object-preserved
loop-object-preserved c =
    object_more c.args.plan.now clause_number (plan_failure c.args.plan.now c.args.site (values_of c.args.deltas.now)) c.args.written.now
    c.loop-object.object-index c.loop-object.found c.failure_on-failure.result c.earlier-found.result c.loop-object.invariant
    c.failure_on-failure.ensures c.earlier-found.ensures

pub returns : goal.returns
returns c before keeps same =
    finding_of c.args.plan.now c.args.site c.requires.keeps.site before (values_of c.args.deltas.now) keeps c.args.written.now same
    c.loop-object.object-index c.loop-object-test.false c.loop-object.found c.loop-object.invariant
