-- The schedule runs every call, so all of its calls exist.
use Rattle.std.proofs.Common.{◌≡◌, ◌∙◌, List, sym, ap, subst}
use Rattle.std.proofs.lemmas.Result.{IfOk-weaker}
use Rattle.homeo_syntax.specs.Source as s
use Rattle.homeo_syntax.specs.SourceView.{plain_workload}
use Rattle.homeo_syntax.specs.declared.workload.Workload.{Workload}
use Rattle.homeo_meaning.specs.Calls.{CallExists}
use Rattle.homeo_meaning.specs.Initial.{initial}
use Rattle.homeo_meaning.specs.declared.call.CallId.{CallId}
use Rattle.homeo_plan.specs.Each.{Each}
use Rattle.homeo_order.specs.Order.{scheduled_calls}
use Rattle.homeo_order.specs.Scheduled.{IsWholeOrder}
use Rattle.homeo_order.proofs.Accepting.{whole_order}
use Rattle.homeo_forecast.proofs.OneText.{same_text}
use Rattle.homeo_forecast.proofs.Schedules.{scheduled_exist}
use Rattle.homeo_forecast.proofs.scheduled.scheduled_forecast.Goals as goal

pub scheduled-requires : goal.scheduled-requires
scheduled-requires c =
    let same : plain_workload c.workload-3.result.now ≡ plain_workload c.args.w =
    ap plain_workload (c.workload-3.ensures.value ∙ c.workload-2.ensures) ∙ c.in_ok-c.ensures in
    subst IsWholeOrder (sym same) (whole_order (plain_workload c.args.w) c.requires.well_formed c.requires.sound)

pub forecast_text-requires-clause-exist : goal.forecast_text-requires-clause-exist
forecast_text-requires-clause-exist c =
    let w = plain_workload c.args.w in
    let same : plain_workload c.workload-3.result.now ≡ w = ap plain_workload (c.workload-3.ensures.value ∙ c.workload-2.ensures) ∙ c.in_ok-c.ensures in
    let calls : c.deref.result.now ≡ scheduled_calls w = c.deref.ensures.value ∙ c.in_ok-calls.ensures ∙ ap scheduled_calls same in
    subst (λ (l : List CallId). Each (λ call. CallExists (plain_workload c.in_ok-c.c) call) l) (sym calls)
    (subst (λ (v : s.Workload). Each (λ call. CallExists v call) (scheduled_calls w)) (sym c.in_ok-c.ensures)
    (scheduled_exist w (whole_order w c.requires.well_formed c.requires.sound)))

pub returns : goal.returns
returns c =
    let w = plain_workload c.args.w in
    let same : plain_workload c.workload-3.result.now ≡ w = ap plain_workload (c.workload-3.ensures.value ∙ c.workload-2.ensures) ∙ c.in_ok-c.ensures in
    let calls : c.deref.result.now ≡ scheduled_calls w = c.deref.ensures.value ∙ c.in_ok-calls.ensures ∙ ap scheduled_calls same in
    let base : c.in_ok-base.base.items ≡ initial w =
    c.in_ok-base.ensures.value ∙ ap (λ (v : Workload). initial (plain_workload v)) c.workload.ensures ∙ ap initial c.in_ok-c.ensures in
    IfOk-weaker c.forecast_text.result _ _
    (λ out is. same_text (plain_workload c.in_ok-c.c) w c.in_ok-base.base.items (initial w) c.deref.result.now (scheduled_calls w) out.items c.in_ok-c.ensures base calls is)
    c.forecast_text.ensures
