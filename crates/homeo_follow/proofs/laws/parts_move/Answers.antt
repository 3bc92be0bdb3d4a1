use Rattle.homeo_follow.proofs.Steadying.{part_moves}
use Rattle.homeo_follow.proofs.laws.parts_move.Goals as goal

pub returns : goal.returns
returns c = part_moves
