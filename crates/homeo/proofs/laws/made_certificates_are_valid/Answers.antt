use Rattle.homeo.proofs.Verdicts.{made_is_valid}
use Rattle.homeo.proofs.laws.made_certificates_are_valid.Goals as goal

pub returns : goal.returns
returns c = made_is_valid
