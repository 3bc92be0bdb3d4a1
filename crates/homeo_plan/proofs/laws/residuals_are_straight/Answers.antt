use Rattle.homeo_plan.proofs.Straight.{table_straight, walk_straight}
use Rattle.homeo_plan.proofs.laws.residuals_are_straight.Goals as goal

pub returns-clause-table : goal.returns-clause-table
returns-clause-table c = table_straight

pub returns-clause-walk : goal.returns-clause-walk
returns-clause-walk c = walk_straight
