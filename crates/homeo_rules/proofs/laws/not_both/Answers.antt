use Rattle.homeo_rules.proofs.OneDecides.{not_both}
use Rattle.homeo_rules.proofs.laws.not_both.Goals as goal

pub returns : goal.returns
returns c = not_both
