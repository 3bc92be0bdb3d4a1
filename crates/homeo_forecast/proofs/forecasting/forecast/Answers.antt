-- The plan is at the base.
use Rattle.std.proofs.Common.{option_map, IfOk, sym, ap, ◌∙◌, subst}
use Rattle.homeo_syntax.specs.SourceView.{plain_workload}
use Rattle.homeo_syntax.specs.declared.workload.Workload.{Workload}
use Rattle.homeo_meaning.specs.Acceptance.{IsAccepted}
use Rattle.homeo_plan.specs.PlanView.{plain_config}
use Rattle.homeo_outline.specs.declared.plan.ObjectPlan.{ObjectPlan}
use Rattle.homeo_build.specs.Plan.{IsObjectPlan}
use Rattle.homeo_forecast.specs.Forecast.{IsForecast}
use Rattle.homeo_forecast.specs.View.{plain_stop}
use Rattle.homeo_forecast.proofs.ForecastSteps.{based}
use Rattle.homeo_forecast.proofs.forecasting.forecast.Goals as goal

pub forecast_on-requires-clause-accepted : goal.forecast_on-requires-clause-accepted
forecast_on-requires-clause-accepted c =
    subst (λ (v : Workload). IsAccepted (plain_workload v)) c.workload.ensures c.workload-workload.ensures.accepted

pub forecast_on-requires-clause-plan : goal.forecast_on-requires-clause-plan
forecast_on-requires-clause-plan c =
    subst (λ (p : ObjectPlan). IsObjectPlan (plain_workload c.args.c.now) p.base.items p) (sym c.deref.ensures)
    (based (plain_workload c.args.c.now) c.args.base.now.items c.in_ok-plan.plan.value c.in_ok-plan.ensures.plan)

pub returns : goal.returns
returns c =
    subst (λ b. IfOk c.forecast_on.result (λ o. IsForecast (plain_workload c.args.c.now) b c.args.calls.now o.kept (plain_config o.config) (option_map plain_stop o.stop)))
    (ap (λ (p : ObjectPlan). p.base.items) c.deref.ensures ∙ c.in_ok-plan.ensures.plan.base) c.forecast_on.ensures
