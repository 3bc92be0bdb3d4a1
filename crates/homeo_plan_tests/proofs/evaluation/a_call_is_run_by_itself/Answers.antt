-- The workload has the call.
use Rattle.std.proofs.Common.{[], ◌∷◌}
use Rattle.std.proofs.lemmas.List.Elements.{All-head}
use Rattle.homeo_meaning.specs.Calls.{CallExists}
use Rattle.homeo_syntax.specs.SourceView.{plain_workload}
use Rattle.homeo_plan_tests.proofs.Example.{exist}
use Rattle.homeo_plan_tests.proofs.evaluation.a_call_is_run_by_itself.Goals as goal

pub eval_call-requires-clause-exists : goal.eval_call-requires-clause-exists
eval_call-requires-clause-exists g c =
    All-head (CallExists (plain_workload c.accepted-w.result)) _ (record { client = 0; seq = 2 } ∷ []) (exist _ c.accepted-w.ensures)
