use Rattle.homeo_rules.proofs.OneDecides.{accepted_or_refused}
use Rattle.homeo_rules.proofs.laws.accepted_or_refused.Goals as goal

pub returns : goal.returns
returns c = accepted_or_refused
