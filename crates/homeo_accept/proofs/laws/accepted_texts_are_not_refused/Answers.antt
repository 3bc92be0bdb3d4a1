use Rattle.homeo_accept.proofs.Decided.{accepted_not_refused}
use Rattle.homeo_accept.proofs.laws.accepted_texts_are_not_refused.Goals as goal

pub returns : goal.returns
returns c = accepted_not_refused
