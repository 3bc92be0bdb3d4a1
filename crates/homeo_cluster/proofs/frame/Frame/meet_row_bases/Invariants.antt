-- The first sites are met.
use Rattle.std.proofs.Common.{◌≡◌, vec_len, length}
use Rattle.homeo_cluster.specs.inner.Cells.{cells_of, book_lists}
use Rattle.homeo_cluster.specs.inner.Meets.{SameBook, MetAt}
use Rattle.homeo_cluster.specs.inner.Rows.{held_cells}
use Rattle.homeo_cluster.proofs.frame.Frame.meet_row_bases.Given as goal

abbrev pub invariant-loop-i : goal.invariant-loop-i
invariant-loop-i g l = record {
  long : length l.cells.items ≡ vec_len l.initial.cells;
  cells : cells_of g.N.ClusterNaming.workload (held_cells l.cells.items) ≡ cells_of g.N.ClusterNaming.workload (held_cells l.initial.cells.items);
  book : SameBook g.N.ClusterNaming.workload l.initial.book l.book;
  met : MetAt g.N.ClusterNaming.workload l.i (cells_of g.N.ClusterNaming.workload (held_cells l.initial.cells.items)) (book_lists g.N.ClusterNaming.workload l.initial.book.held);
}
