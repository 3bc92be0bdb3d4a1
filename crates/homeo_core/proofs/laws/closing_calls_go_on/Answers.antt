use Rattle.homeo_core.proofs.ClosingCalls.{core_cleanup}
use Rattle.homeo_core.proofs.laws.closing_calls_go_on.Goals as goal

pub returns : goal.returns
returns c = core_cleanup
