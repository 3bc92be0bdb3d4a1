use Rattle.homeo_core.proofs.Following.{follows_local}
use Rattle.homeo_core.proofs.laws.local_calls_are_followed.Goals as goal

pub returns : goal.returns
returns c = follows_local
