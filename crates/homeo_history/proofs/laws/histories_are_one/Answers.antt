use Rattle.homeo_history.proofs.OneHistories.{one_history}
use Rattle.homeo_history.proofs.laws.histories_are_one.Goals as goal

pub returns : goal.returns
returns c = one_history
