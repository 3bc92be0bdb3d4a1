-- The residual is straight, and its numbers are small.
use Rattle.homeo_plan.specs.PlanView.{plain_residual}
use Rattle.homeo_plan_tests.proofs.ObjectExample.{residual_straight, residual_small}
use Rattle.homeo_plan_tests.proofs.needs.a_site_that_prints_an_object_needs_the_delta_of_the_other.Goals as goal

pub needs-requires-clause-straight : goal.needs-requires-clause-straight
needs-requires-clause-straight g c = residual_straight (plain_residual c.printed-residual.result) c.printed-residual.ensures

pub needs-requires-clause-small : goal.needs-requires-clause-small
needs-requires-clause-small g c =
    residual_small (plain_residual c.printed-residual.result) c.base-base.result.items c.printed-residual.ensures c.base-base.ensures
