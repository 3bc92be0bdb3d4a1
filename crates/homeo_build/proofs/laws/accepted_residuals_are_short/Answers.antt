use Rattle.homeo_build.proofs.ShortResiduals.{residuals_short}
use Rattle.homeo_build.proofs.laws.accepted_residuals_are_short.Goals as goal

pub returns : goal.returns
returns c = residuals_short
