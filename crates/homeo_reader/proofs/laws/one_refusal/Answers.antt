use Rattle.homeo_reader.proofs.Unread.{one_refusal}
use Rattle.homeo_reader.proofs.laws.one_refusal.Goals as goal

pub returns : goal.returns
returns c = one_refusal
