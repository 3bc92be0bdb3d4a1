use Rattle.homeo_load.proofs.DrawnAdditions.{additions_length}
use Rattle.homeo_load.proofs.laws.one_addition_each.Goals as goal

pub returns : goal.returns
returns c = additions_length
