use Rattle.homeo_order.proofs.Accepting.{whole_order}
use Rattle.homeo_order.proofs.laws.orders_are_whole.Goals as goal

pub returns : goal.returns
returns c = whole_order
