-- What fails earliest of what stands on the first objects.
use Rattle.homeo_meaning.specs.Serial.{values_of}
use Rattle.homeo_site.specs.Earliest.{IsEarliest}
use Rattle.homeo_site.specs.StandsOn.{StandsOnOne}
use Rattle.homeo_site.specs.inner.Failures.{clause_number}
use Rattle.homeo_site.specs.inner.PlanFailures.{plan_failure}
use Rattle.homeo_site.proofs.own_treaty.first_failure.Given as goal

abbrev pub invariant-loop-object : goal.invariant-loop-object
invariant-loop-object l =
    IsEarliest clause_number (plan_failure l.plan l.site (values_of l.deltas)) (StandsOnOne l.plan l.written l.object-index) l.found
