-- None is left.
use Rattle.std.proofs.Common.{arith}
use Rattle.homeo_form.proofs.DeltasInOrder.{no_delta_left}
use Rattle.homeo_form.proofs.deltas.are_in_order.Goals as goal

pub loop-place-init : goal.loop-place-init
loop-place-init c = record { within = omega arith; ordered = no_delta_left c.args.deltas.now }
