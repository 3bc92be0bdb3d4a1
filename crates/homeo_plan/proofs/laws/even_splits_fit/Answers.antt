use Rattle.homeo_plan.proofs.Policy.{even_fits}
use Rattle.homeo_plan.proofs.laws.even_splits_fit.Goals as goal

pub returns : goal.returns
returns c = even_fits
