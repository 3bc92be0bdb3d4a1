use Rattle.homeo_certificate.proofs.OneVerdict.{one_verdict}
use Rattle.homeo_certificate.proofs.laws.bytes_have_one_verdict.Goals as goal

pub returns : goal.returns
returns c = one_verdict
