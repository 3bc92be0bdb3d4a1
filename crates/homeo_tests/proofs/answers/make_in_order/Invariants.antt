-- The passes stay all passes, in order.
use Rattle.homeo_cluster.specs.Passes.{AreAll}
use Rattle.homeo_tests.proofs.answers.make_in_order.Given as goal

abbrev pub invariant-loop-client : goal.invariant-loop-client
invariant-loop-client g l = AreAll g.N.ClusterNaming.workload l.passes.items
