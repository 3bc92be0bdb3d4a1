use Rattle.homeo_build.proofs.FewClauses.{clauses_few}
use Rattle.homeo_build.proofs.FewFreezes.{freezes_few, plan_few, object_plan_few}
use Rattle.homeo_build.proofs.laws.accepted_plans_are_few.Goals as goal

pub returns : goal.returns
returns c = record { clauses = clauses_few; freezes = freezes_few; plan = plan_few; object_plan = object_plan_few }
