use Rattle.homeo_process.proofs.Clustering.{lines_are_events}
use Rattle.homeo_process.proofs.laws.lines_are_events.Goals as goal

pub returns : goal.returns
returns c = lines_are_events
