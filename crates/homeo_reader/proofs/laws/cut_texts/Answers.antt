use Rattle.homeo_reader.proofs.Cut.{cut_texts}
use Rattle.homeo_reader.proofs.laws.cut_texts.Goals as goal

pub returns : goal.returns
returns c = cut_texts
