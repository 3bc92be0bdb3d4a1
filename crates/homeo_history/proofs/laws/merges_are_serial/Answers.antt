use Rattle.homeo_history.proofs.Merges.{merge_law}
use Rattle.homeo_history.proofs.laws.merges_are_serial.Goals as goal

pub returns : goal.returns
returns c = merge_law
