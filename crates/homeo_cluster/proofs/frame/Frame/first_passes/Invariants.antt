-- The passes so far are those of the first clients.
use Rattle.homeo_cluster.specs.Places.{line_count}
use Rattle.homeo_cluster.specs.inner.Begun.{AreLeft, AreFirst}
use Rattle.homeo_cluster.proofs.frame.Frame.first_passes.Given as goal

abbrev pub invariant-loop-client : goal.invariant-loop-client
invariant-loop-client g l = record {
  rest : AreLeft l.client (line_count g.N.ClusterNaming.workload) l.rest;
  passes : AreFirst l.client l.passes.items;
}
