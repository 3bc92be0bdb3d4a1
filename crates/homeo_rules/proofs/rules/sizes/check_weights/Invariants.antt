use Rattle.homeo_rules.specs.inner.Sizes.{workload_of}
use Rattle.homeo_rules.proofs.WeightsAlong.{WeightsSo}
use Rattle.homeo_rules.proofs.rules.sizes.check_weights.Given as goal

abbrev pub invariant-loop-measured : goal.invariant-loop-measured
invariant-loop-measured l = WeightsSo (workload_of l.measuring) l.initial.best l.best l.calls l.measured-index
