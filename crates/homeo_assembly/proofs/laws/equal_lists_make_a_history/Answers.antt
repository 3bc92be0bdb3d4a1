use Rattle.homeo_assembly.proofs.Assembled.{assembly}
use Rattle.homeo_assembly.proofs.laws.equal_lists_make_a_history.Goals as goal

pub returns : goal.returns
returns c = assembly
