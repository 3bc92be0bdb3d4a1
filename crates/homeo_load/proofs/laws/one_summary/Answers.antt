use Rattle.homeo_load.proofs.Output.{load_summary_is}
use Rattle.homeo_load.proofs.laws.one_summary.Goals as goal

pub returns : goal.returns
returns c = load_summary_is
