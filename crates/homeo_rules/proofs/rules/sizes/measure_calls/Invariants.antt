use Rattle.homeo_rules.specs.inner.Bodies.{AreBodies, bodies_of}
use Rattle.homeo_rules.specs.inner.Sizes.{workload_of}
use Rattle.homeo_rules.proofs.CallsMeasured.{MeasuringSo}
use Rattle.homeo_rules.proofs.rules.sizes.measure_calls.Given as goal

abbrev pub invariant-loop-call : goal.invariant-loop-call
invariant-loop-call l = record {
  bodies : AreBodies (workload_of l.measuring) l.bodies;
  so : MeasuringSo (workload_of l.measuring) l.total (bodies_of l.bodies) l.all.items l.calls l.call-index;
}
