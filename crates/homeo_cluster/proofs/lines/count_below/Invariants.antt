-- The count is of the clients so far.
use Rattle.std.proofs.Common.{◌≡◌, ◌≤◌}
use Rattle.homeo_syntax.specs.SourceView.{plain_workload}
use Rattle.homeo_cluster.proofs.LinesCounted.{BelowSoFar}
use Rattle.homeo_cluster.proofs.lines.count_below.Given as goal

abbrev pub invariant-loop-client : goal.invariant-loop-client
invariant-loop-client l = record {
  count : l.count ≡ BelowSoFar (plain_workload l.w) l.site l.client;
  few : l.count ≤ l.client;
}
