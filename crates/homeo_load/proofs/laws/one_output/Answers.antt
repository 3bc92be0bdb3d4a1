use Rattle.homeo_load.proofs.Output.{load_output}
use Rattle.homeo_load.proofs.laws.one_output.Goals as goal

pub returns : goal.returns
returns c = load_output
