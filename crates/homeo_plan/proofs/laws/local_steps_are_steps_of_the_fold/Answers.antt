use Rattle.homeo_plan.proofs.Stepped.{stepped}
use Rattle.homeo_plan.proofs.laws.local_steps_are_steps_of_the_fold.Goals as goal

pub returns : goal.returns
returns c = stepped
