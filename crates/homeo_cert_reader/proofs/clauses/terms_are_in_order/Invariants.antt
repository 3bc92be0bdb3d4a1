-- The deltas of the terms so far are in order.
use Rattle.homeo_plan.specs.Linear.{deltas_of}
use Rattle.homeo_cert_reader.proofs.DeltasInOrder.{AreInOrderBelow}
use Rattle.homeo_cert_reader.proofs.clauses.terms_are_in_order.Given as goal

abbrev pub invariant-loop-place : goal.invariant-loop-place
invariant-loop-place l = AreInOrderBelow l.place (deltas_of l.terms)
