use Rattle.homeo_assembly.proofs.ClosingEvents.{cleanup_event}
use Rattle.homeo_assembly.proofs.laws.closing_calls_keep_all.Goals as goal

pub returns : goal.returns
returns c = cleanup_event
