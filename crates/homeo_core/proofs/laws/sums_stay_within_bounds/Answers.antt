use Rattle.homeo_core.proofs.Gathering.{gathering}
use Rattle.homeo_core.proofs.laws.sums_stay_within_bounds.Goals as goal

pub returns : goal.returns
returns c = gathering
