-- The call exists, each time.
use Rattle.std.proofs.Common.{List, sym, subst}
use Rattle.homeo_syntax.specs.SourceView.{plain_workload}
use Rattle.homeo_meaning.specs.Calls.{CallExists}
use Rattle.homeo_meaning.specs.declared.call.CallId.{CallId}
use Rattle.homeo_plan.specs.Key.{definitions}
use Rattle.homeo_plan.specs.Each.{Each}
use Rattle.homeo_tests.proofs.forecasts.outlook_of_six.Goals as goal

pub forecast-requires-clause-exist : goal.forecast-requires-clause-exist
unfolding definitions
forecast-requires-clause-exist g c =
    let it = c.requires.exists in
    subst (λ (calls : List CallId). Each (CallExists (plain_workload c.args.c.now)) calls) (sym c.as_slice.ensures) (it, (it, (it, (it, (it, (it, tt))))))
