use Rattle.homeo_lform.proofs.Stays.{bounds_law}
use Rattle.homeo_lform.proofs.laws.program_stays_within_bounds.Goals as goal

pub returns : goal.returns
returns c = bounds_law
