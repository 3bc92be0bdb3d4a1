-- The count is of the clients so far.
use Rattle.std.proofs.Common.{◌≡◌, ◌≤◌}
use Rattle.homeo_syntax.specs.SourceView.{plain_workload}
use Rattle.homeo_cluster.specs.inner.Begun.{before}
use Rattle.homeo_cluster.proofs.lines.count_before.Given as goal

abbrev pub invariant-loop-other : goal.invariant-loop-other
invariant-loop-other l = record {
  count : l.count ≡ before (plain_workload l.w) l.site l.other;
  few : l.count ≤ l.other;
}
