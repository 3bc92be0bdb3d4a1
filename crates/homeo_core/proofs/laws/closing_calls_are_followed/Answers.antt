use Rattle.homeo_core.proofs.Following.{follows_cleanup}
use Rattle.homeo_core.proofs.laws.closing_calls_are_followed.Goals as goal

pub returns : goal.returns
returns c = follows_cleanup
