use Rattle.homeo_plan.proofs.PlannedCalls.{all_sites_below}
use Rattle.homeo_plan.proofs.laws.ground_calls_stand_at_sites.Goals as goal

pub returns : goal.returns
returns c = all_sites_below
