use Rattle.homeo.proofs.Ended.{ended_closes}
use Rattle.homeo.proofs.laws.ended_calls_close_no_round.Goals as goal

pub returns : goal.returns
returns c = ended_closes
