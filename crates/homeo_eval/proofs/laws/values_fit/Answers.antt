use Rattle.homeo_eval.proofs.ValuesFit.{fit}
use Rattle.homeo_eval.proofs.laws.values_fit.Goals as goal

pub returns : goal.returns
returns c = fit
