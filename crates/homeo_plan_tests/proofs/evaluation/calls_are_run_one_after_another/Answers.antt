-- The workload has the calls that are run.
use Rattle.homeo_plan_tests.proofs.Example.{exist}
use Rattle.homeo_plan_tests.proofs.evaluation.calls_are_run_one_after_another.Goals as goal

pub serial-requires-clause-exist : goal.serial-requires-clause-exist
serial-requires-clause-exist g c = exist _ c.accepted-w.ensures
