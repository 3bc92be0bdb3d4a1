use Rattle.homeo_rules.proofs.OneDecides.{one_refusal}
use Rattle.homeo_rules.proofs.laws.one_refusal.Goals as goal

pub returns : goal.returns
returns c = one_refusal
