use Rattle.homeo_live.specs.Key.{definitions}
use Rattle.std.proofs.Common.{◌≡◌, true, ◌<◌, ◌+ℤ◌, length, sym, ap, subst, ◌∙◌}
use Rattle.std.specs.Prelude.{is_some}
use Rattle.homeo_lemmas.proofs.Options.{if_some}
use Rattle.homeo_syntax.specs.SourceView.{plain_workload}
use Rattle.homeo_syntax.specs.declared.workload.Workload.{Workload}
use Rattle.homeo_meaning.specs.Acceptance.{IsAccepted}
use Rattle.homeo_meaning.specs.Bounds.{IsWithin, AllWithin, all_bounds}
use Rattle.homeo_meaning.specs.Schema.{schema_of}
use Rattle.homeo_meaning.specs.Serial.{values_of}
use Rattle.homeo_plan.specs.Planned.{sites_of}
use Rattle.homeo_history.specs.Replayed.{MeetsTreaty}
use Rattle.homeo_site.specs.SiteView.{StartValue}
use Rattle.homeo_live.specs.inner.Standing.{IsFit}
use Rattle.homeo_live.proofs.Begun.{fit_live, fit_view, reached_fits, reached_meets}
use Rattle.homeo_live.proofs.live.LiveNode.begin_at.Goals as goal

pub start-requires-clause-within : goal.start-requires-clause-within
start-requires-clause-within c =
    subst (λ (v : Workload). IsWithin (schema_of (plain_workload v)) c.args.state.base.items) (sym c.new-planner.ensures) (subst (λ (v : Workload). IsFit (plain_workload v) c.args.state) (c.workload-3.ensures ∙ c.deref-3.ensures) (c.in_ok-is_fit.ensures.yes c.if-not-branch.false)).values.within

pub start-requires-clause-site : goal.start-requires-clause-site
start-requires-clause-site c =
    subst (λ (v : Workload). c.args.state.site < sites_of (plain_workload v)) (sym c.new-planner.ensures) (subst (λ (v : Workload). IsFit (plain_workload v) c.args.state) (c.workload-3.ensures ∙ c.deref-3.ensures) (c.in_ok-is_fit.ensures.yes c.if-not-branch.false)).shape.site

pub begin_at-requires-clause-count : goal.begin_at-requires-clause-count
begin_at-requires-clause-count c =
    (subst (λ (v : Workload). IsFit (plain_workload v) c.args.state) (c.workload-3.ensures ∙ c.deref-3.ensures) (c.in_ok-is_fit.ensures.yes c.if-not-branch.false)).values.count ∙ ap (λ (v : StartValue). length v.base) (sym c.in_ok-start.ensures.start)

pub begin_at-requires-clause-within : goal.begin_at-requires-clause-within
begin_at-requires-clause-within c =
    subst (λ (v : StartValue). AllWithin (schema_of (plain_workload v.work)) (λ n. values_of v.base n +ℤ values_of c.args.state.deltas.items n)) (sym (c.in_ok-start.ensures.start ∙ ap (λ (v : Workload). record { work = v; number = c.args.state.site; round = c.args.state.round; base = c.args.state.base.items }) c.new-planner.ensures)) (subst (λ (v : Workload). IsFit (plain_workload v) c.args.state) (c.workload-3.ensures ∙ c.deref-3.ensures) (c.in_ok-is_fit.ensures.yes c.if-not-branch.false)).values.all

pub invariant_of-result : goal.invariant_of-result
invariant_of-result c =
    let fit = subst (λ (v : Workload). IsFit (plain_workload v) c.args.state) (c.workload-3.ensures ∙ c.deref-3.ensures) (c.in_ok-is_fit.ensures.yes c.if-not-branch.false) in
    fit_live c.args.c.value c.start.new.self c.in_ok-bounds.bounds.items c.args.state c.in_ok-start.start c.in-Some.site (subst (λ (v : Workload). IsAccepted (plain_workload v)) (c.workload.ensures ∙ c.deref.ensures) c.client_count-clients.ensures.accepted) fit (c.in_ok-start.ensures.planner ∙ c.new-planner.ensures) (c.in_ok-bounds.ensures ∙ ap (λ (v : Workload). all_bounds (schema_of (plain_workload v))) (c.workload-2.ensures ∙ c.deref-2.ensures)) (c.in_ok-start.ensures.start ∙ ap (λ (v : Workload). record { work = v; number = c.args.state.site; round = c.args.state.round; base = c.args.state.base.items }) c.new-planner.ensures) (if_some _ c.in_ok-site.field-0 c.in-Some.site c.in_ok-site.ensures.at c.in-Some.is)

pub returns-in-Some-clause-state : goal.returns-in-Some-clause-state
unfolding definitions
returns-in-Some-clause-state c =
    fit_view c.args.c.value c.start.new.self c.args.state c.in_ok-start.start c.in-Some.site (c.in_ok-start.ensures.planner ∙ c.new-planner.ensures) (c.in_ok-start.ensures.start ∙ ap (λ (v : Workload). record { work = v; number = c.args.state.site; round = c.args.state.round; base = c.args.state.base.items }) c.new-planner.ensures) (if_some _ c.in_ok-site.field-0 c.in-Some.site c.in_ok-site.ensures.at c.in-Some.is)

pub returns-then-not-branch-clause-reached : goal.returns-then-not-branch-clause-reached
returns-then-not-branch-clause-reached c led =
    let fit = reached_fits (plain_workload c.args.c.value) c.args.state (subst (λ (v : Workload). IsAccepted (plain_workload v)) (c.workload.ensures ∙ c.deref.ensures) c.client_count-clients.ensures.accepted) led in
    sym c.if-not-branch.true ∙ c.in_ok-is_fit.ensures.no (subst (λ (v : Workload). IsFit (plain_workload v) c.args.state) (sym (c.workload-3.ensures ∙ c.deref-3.ensures)) fit)

pub returns-in-None-clause-reached : goal.returns-in-None-clause-reached
returns-in-None-clause-reached c led =
    let meets = reached_meets (plain_workload c.args.c.value) c.args.state (subst (λ (v : Workload). IsAccepted (plain_workload v)) (c.workload.ensures ∙ c.deref.ensures) c.client_count-clients.ensures.accepted) led in
    let start = c.in_ok-start.ensures.start ∙ ap (λ (v : Workload). record { work = v; number = c.args.state.site; round = c.args.state.round; base = c.args.state.base.items }) c.new-planner.ensures in
    subst (λ o. is_some o ≡ true) c.in-None.is (c.in_ok-site.ensures.meets (subst (λ (v : StartValue). MeetsTreaty (plain_workload v.work) v.base v.number (values_of c.args.state.deltas.items)) (sym start) meets))
