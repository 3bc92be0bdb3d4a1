use Rattle.homeo.proofs.Ended.{ended_keeps}
use Rattle.homeo.proofs.laws.ended_calls_keep_treaties.Goals as goal

pub returns : goal.returns
returns c = ended_keeps
