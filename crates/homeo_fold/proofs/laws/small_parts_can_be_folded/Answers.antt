use Rattle.homeo_fold.proofs.SmallFolds.{sums_law}
use Rattle.homeo_fold.proofs.laws.small_parts_can_be_folded.Goals as goal

pub returns : goal.returns
returns c = sums_law
