use Rattle.homeo_certificate.proofs.OneCertificate.{one_certificate}
use Rattle.homeo_certificate.proofs.laws.values_are_of_one_certificate.Goals as goal

pub returns : goal.returns
returns c = one_certificate
