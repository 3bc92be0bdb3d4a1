use Rattle.homeo.proofs.OneOutput.{one_output}
use Rattle.homeo.proofs.laws.outputs_are_one.Goals as goal

pub returns : goal.returns
returns c = one_output
