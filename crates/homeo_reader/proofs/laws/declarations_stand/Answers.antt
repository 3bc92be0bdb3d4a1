use Rattle.homeo_reader.proofs.Declared.{declarations_stand}
use Rattle.homeo_reader.proofs.laws.declarations_stand.Goals as goal

pub returns : goal.returns
returns c = declarations_stand
