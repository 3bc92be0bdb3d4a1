use Rattle.homeo_certified.proofs.CertifiedCalls.{certified_is_valid}
use Rattle.homeo_certified.proofs.laws.certified_rounds_have_no_fault.Goals as goal

pub returns : goal.returns
returns c = λ w base config a b f. certified_is_valid w base a b config f
