use Rattle.homeo_history.proofs.Folds.{fold_within}
use Rattle.homeo_history.proofs.laws.folds_stay_within_bounds.Goals as goal

pub returns : goal.returns
returns c = fold_within
