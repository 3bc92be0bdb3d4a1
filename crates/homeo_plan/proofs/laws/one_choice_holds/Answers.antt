use Rattle.homeo_plan.proofs.Joints.{joint_law}
use Rattle.homeo_plan.proofs.laws.one_choice_holds.Goals as goal

pub returns : goal.returns
returns c = joint_law
