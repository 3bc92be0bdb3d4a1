use Rattle.homeo_history.proofs.SerialParts.{serially}
use Rattle.homeo_history.proofs.laws.legal_histories_are_serial_in_order.Goals as goal

pub returns : goal.returns
returns c = serially
