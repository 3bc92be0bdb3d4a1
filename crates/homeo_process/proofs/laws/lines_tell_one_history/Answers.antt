use Rattle.homeo_process.proofs.Clustering.{lines_tell_one_history}
use Rattle.homeo_process.proofs.laws.lines_tell_one_history.Goals as goal

pub returns : goal.returns
returns c = lines_tell_one_history
