-- Of the first clients site and book are met.
use Rattle.std.proofs.Common.{◌≡◌, length}
use Rattle.homeo_plan.specs.Planned.{sites_of}
use Rattle.homeo_cluster.specs.inner.Cells.{cells_of, book_lists}
use Rattle.homeo_cluster.specs.inner.Meets.{SameBook, MetShut}
use Rattle.homeo_cluster.proofs.frame.Frame.meet_clients.Given as goal

abbrev pub invariant-loop-client : goal.invariant-loop-client
invariant-loop-client g l = record {
  long : length l.cells.items ≡ sites_of g.N.ClusterNaming.workload;
  cells : cells_of g.N.ClusterNaming.workload l.cells.items ≡ cells_of g.N.ClusterNaming.workload l.initial.cells.items;
  book : SameBook g.N.ClusterNaming.workload l.initial.book l.book;
  met : MetShut g.N.ClusterNaming.workload l.client (cells_of g.N.ClusterNaming.workload l.initial.cells.items) (book_lists g.N.ClusterNaming.workload l.initial.book.held);
}
