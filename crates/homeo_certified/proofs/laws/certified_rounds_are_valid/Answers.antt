use Rattle.homeo_certified.proofs.CertifiedTexts.{certified_texts_are_valid}
use Rattle.homeo_certified.proofs.laws.certified_rounds_are_valid.Goals as goal

pub returns : goal.returns
returns c = certified_texts_are_valid
