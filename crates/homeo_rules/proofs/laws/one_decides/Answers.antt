use Rattle.homeo_rules.proofs.OneDecides.{one_decides}
use Rattle.homeo_rules.proofs.laws.one_decides.Goals as goal

pub returns : goal.returns
returns c = one_decides
