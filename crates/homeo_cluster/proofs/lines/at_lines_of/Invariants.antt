-- The lines so far are those of the first sites.
use Rattle.std.proofs.Common.{◌≡◌, ℕ, ◌<◌, length, Some}
use Rattle.std.specs.Prelude.{slice_get}
use Rattle.homeo_syntax.specs.SourceView.{plain_workload}
use Rattle.homeo_cluster.specs.Places.{at_line}
use Rattle.homeo_cluster.proofs.lines.at_lines_of.Given as goal

abbrev pub invariant-loop-site : goal.invariant-loop-site
invariant-loop-site l = record {
  count : length l.lines.items ≡ l.site;
  lines : (i : ℕ) → i < l.site → slice_get l.lines.items i ≡ Some (at_line (plain_workload l.w) i);
}
