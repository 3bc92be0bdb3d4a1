-- The core stays one of the same workload.
use Rattle.std.proofs.Common.{◌≡◌}
use Rattle.homeo_tests.proofs.steps.step_all.Given as goal

abbrev pub invariant-loop-client : goal.invariant-loop-client
invariant-loop-client g l = l.core.work ≡ l.initial.core.work
