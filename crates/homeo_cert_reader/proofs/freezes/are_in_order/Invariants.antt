-- The deltas so far are in order.
use Rattle.homeo_cert_reader.proofs.DeltasInOrder.{AreInOrderBelow}
use Rattle.homeo_cert_reader.proofs.freezes.are_in_order.Given as goal

abbrev pub invariant-loop-place : goal.invariant-loop-place
invariant-loop-place l = AreInOrderBelow l.place l.deltas
