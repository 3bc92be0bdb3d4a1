-- None is left.
use Rattle.std.proofs.Common.{arith}
use Rattle.homeo_form.proofs.Adding.{none_left_added_up}
use Rattle.homeo_form.proofs.terms.are_added_up.Goals as goal

pub loop-place-init : goal.loop-place-init
loop-place-init c = record { within = omega arith; added_up = none_left_added_up c.args.terms.now }
