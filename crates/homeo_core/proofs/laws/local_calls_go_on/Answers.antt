use Rattle.homeo_core.proofs.LocalCalls.{core_local}
use Rattle.homeo_core.proofs.laws.local_calls_go_on.Goals as goal

pub returns : goal.returns
returns c = core_local
