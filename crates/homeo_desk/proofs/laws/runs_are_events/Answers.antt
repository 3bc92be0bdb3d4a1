use Rattle.homeo_desk.proofs.Running.{runs_are_events}
use Rattle.homeo_desk.proofs.laws.runs_are_events.Goals as goal

pub returns : goal.returns
returns c = runs_are_events
