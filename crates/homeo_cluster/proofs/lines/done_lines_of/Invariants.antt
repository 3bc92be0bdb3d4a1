-- The lines so far are those of the first clients.
use Rattle.std.proofs.Common.{◌≡◌, ℕ, ◌<◌, length, Some}
use Rattle.std.specs.Prelude.{slice_get}
use Rattle.homeo_syntax.specs.SourceView.{plain_workload}
use Rattle.homeo_cluster.specs.Places.{done_line}
use Rattle.homeo_cluster.proofs.lines.done_lines_of.Given as goal

abbrev pub invariant-loop-client : goal.invariant-loop-client
invariant-loop-client l = record {
  count : length l.lines.items ≡ l.client;
  lines : (i : ℕ) → i < l.client → slice_get l.lines.items i ≡ Some (done_line (plain_workload l.w) i);
}
