-- Of the first clients site and pass are met.
use Rattle.std.proofs.Common.{◌≡◌, length}
use Rattle.homeo_plan.specs.Planned.{sites_of}
use Rattle.homeo_cluster.specs.inner.Cells.{cells_of}
use Rattle.homeo_cluster.specs.Passes.{AreAll, logs_of}
use Rattle.homeo_cluster.specs.inner.Meets.{MetDone}
use Rattle.homeo_cluster.proofs.frame.Frame.meet_passes.Given as goal

abbrev pub invariant-loop-client : goal.invariant-loop-client
invariant-loop-client g l = record {
  long : length l.cells.items ≡ sites_of g.N.ClusterNaming.workload;
  cells : cells_of g.N.ClusterNaming.workload l.cells.items ≡ cells_of g.N.ClusterNaming.workload l.initial.cells.items;
  all : AreAll g.N.ClusterNaming.workload l.passes.items;
  logs : logs_of l.passes.items ≡ logs_of l.initial.passes.items;
  met : MetDone g.N.ClusterNaming.workload l.client (cells_of g.N.ClusterNaming.workload l.initial.cells.items) (logs_of l.initial.passes.items);
}
