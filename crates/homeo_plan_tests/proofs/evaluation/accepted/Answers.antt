-- The workload is accepted.
use Rattle.std.proofs.Common.{subst, sym}
use Rattle.homeo_meaning.specs.Acceptance.{IsAccepted}
use Rattle.homeo_plan_tests.proofs.Example.{example-accepted}
use Rattle.homeo_plan_tests.proofs.evaluation.accepted.Goals as goal

pub new-requires : goal.new-requires
new-requires g c = subst IsAccepted (sym c.workload-workload.ensures) example-accepted
