-- The first sites have gone on.
use Rattle.std.proofs.Common.{◌≡◌, vec_len, length}
use Rattle.homeo_history.specs.HistoryView.{plain_answer}
use Rattle.homeo_cluster.specs.inner.Meets.{site_states}
use Rattle.homeo_cluster.specs.inner.Rows.{held_cells, HaveGoneOn, prepared_at}
use Rattle.homeo_cluster.proofs.frame.Frame.renew_row.Given as goal

abbrev pub invariant-loop-i : goal.invariant-loop-i
invariant-loop-i g l = record {
  long : length l.cells.items ≡ vec_len l.initial.cells;
  gone : HaveGoneOn g.N.ClusterNaming.workload l.next (plain_answer l.answer) l.i (held_cells l.initial.cells.items) (held_cells l.cells.items) l.initial.book l.book l.initial.asker l.asker;
  prepared : l.prepared ≡ prepared_at l.initial.prepared (site_states (held_cells l.initial.cells.items)) l.i;
}
