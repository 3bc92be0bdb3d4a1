use Rattle.homeo_assembly.proofs.MovedEntries.{moving}
use Rattle.homeo_assembly.proofs.laws.answers_go_over_one_by_one.Goals as goal

pub returns : goal.returns
returns c = moving
