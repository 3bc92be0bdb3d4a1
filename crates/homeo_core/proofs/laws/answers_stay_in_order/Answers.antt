use Rattle.homeo_core.proofs.Ordered.{core_order}
use Rattle.homeo_core.proofs.laws.answers_stay_in_order.Goals as goal

pub returns : goal.returns
returns c = core_order
