use Rattle.homeo_follow.proofs.Needed.{needs_are_followed}
use Rattle.homeo_follow.proofs.laws.needs_are_followed.Goals as goal

pub returns : goal.returns
returns c = needs_are_followed
