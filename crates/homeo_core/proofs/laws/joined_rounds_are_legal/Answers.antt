use Rattle.homeo_core.proofs.Joining.{joining}
use Rattle.homeo_core.proofs.laws.joined_rounds_are_legal.Goals as goal

pub returns : goal.returns
returns c = joining
