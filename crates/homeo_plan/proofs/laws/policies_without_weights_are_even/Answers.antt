use Rattle.homeo_plan.proofs.Policy.{policy_even}
use Rattle.homeo_plan.proofs.laws.policies_without_weights_are_even.Goals as goal

pub returns : goal.returns
returns c = policy_even
