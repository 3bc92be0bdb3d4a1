use Rattle.homeo_plan.proofs.Joints.{picks_law}
use Rattle.homeo_plan.proofs.laws.picks_give_the_joint_table.Goals as goal

pub returns : goal.returns
returns c = picks_law
