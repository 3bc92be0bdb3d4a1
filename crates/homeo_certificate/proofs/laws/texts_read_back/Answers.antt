use Rattle.homeo_certificate.proofs.TextReads.{text_reads}
use Rattle.homeo_certificate.proofs.laws.texts_read_back.Goals as goal

pub returns : goal.returns
returns c = text_reads
