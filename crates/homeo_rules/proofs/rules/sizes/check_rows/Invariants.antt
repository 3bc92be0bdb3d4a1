use Rattle.homeo_rules.specs.inner.Sizes.{workload_of}
use Rattle.homeo_rules.proofs.RowsAlong.{RowsSo}
use Rattle.homeo_rules.proofs.rules.sizes.check_rows.Given as goal

abbrev pub invariant-loop-measured : goal.invariant-loop-measured
invariant-loop-measured l = RowsSo (workload_of l.measuring) l.initial.best l.best l.total l.calls l.measured-index
