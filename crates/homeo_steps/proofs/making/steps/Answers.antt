use Rattle.std.proofs.Common.{◌≡◌, ◌∙◌, ap, subst}
use Rattle.std.proofs.lemmas.Result.{IfOk-weaker}
use Rattle.homeo_syntax.specs.SourceView.{plain_workload}
use Rattle.homeo_syntax.specs.declared.workload.Workload.{Workload}
use Rattle.homeo_meaning.specs.Bounds.{IsWithin}
use Rattle.homeo_meaning.specs.Initial.{initial}
use Rattle.homeo_meaning.specs.Schema.{schema_of}
use Rattle.homeo_history.specs.HistoryView.{plain_history}
use Rattle.homeo_steps.proofs.Stepping.{full_from}
use Rattle.homeo_steps.proofs.making.steps.Goals as goal

pub steps_from-requires-clause-within : goal.steps_from-requires-clause-within
steps_from-requires-clause-within c =
    let work : c.workload.result.now ≡ c.args.c.now.value = c.workload.ensures ∙ c.deref.ensures in
    subst (λ (v : Workload). IsWithin (schema_of (plain_workload v)) c.in_ok-base.base.items) work c.in_ok-base.ensures.within

pub returns-clause-full : goal.returns-clause-full
returns-clause-full c =
    let work : c.workload.result.now ≡ c.args.c.now.value = c.workload.ensures ∙ c.deref.ensures in
    let start = c.in_ok-base.ensures.value ∙ ap (λ (v : Workload). initial (plain_workload v)) work in
    IfOk-weaker c.steps_from.result _ _ (λ h legal. full_from (plain_workload c.args.c.now.value) c.in_ok-base.base.items (plain_history h) start legal) c.steps_from.ensures.legal
