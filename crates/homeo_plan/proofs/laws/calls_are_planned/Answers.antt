use Rattle.homeo_plan.proofs.PlannedCalls.{planned_member, site_below}
use Rattle.homeo_plan.proofs.laws.calls_are_planned.Goals as goal

pub returns-clause-member : goal.returns-clause-member
returns-clause-member c = planned_member

pub returns-clause-site : goal.returns-clause-site
returns-clause-site c = site_below
