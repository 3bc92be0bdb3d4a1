use Rattle.homeo_assembly.proofs.Reading.{read_back}
use Rattle.homeo_assembly.proofs.laws.answers_read_back.Goals as goal

pub returns : goal.returns
returns c = read_back
