use Rattle.homeo_reader.proofs.Texts.{texts_stand}
use Rattle.homeo_reader.proofs.laws.texts_stand.Goals as goal

pub returns : goal.returns
returns c = texts_stand
