use Rattle.homeo_reader.proofs.SpelledNames.{well_formed}
use Rattle.homeo_reader.proofs.laws.well_formed.Goals as goal

pub returns : goal.returns
returns c = well_formed
