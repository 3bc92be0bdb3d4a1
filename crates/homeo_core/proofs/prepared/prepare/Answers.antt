use Rattle.std.proofs.Common.{◌≡◌, sym, ap, subst, ◌∙◌, map, replicate, true, [], List, ℤ}
use Rattle.homeo_syntax.specs.Listed.{Listed}
use Rattle.homeo_syntax.specs.declared.workload.Workload.{Workload}
use Rattle.homeo_syntax.specs.SourceView.{plain_workload}
use Rattle.homeo_meaning.specs.Serial.{Outcome, call_outcome}
use Rattle.homeo_plan.specs.Planned.{sites_of}
use Rattle.homeo_build.specs.Plan.{IsObjectPlan}
use Rattle.homeo_history.specs.Follows.{site_or_zero}
use Rattle.homeo_history.specs.HistoryView.{plain_segment, plain_closing}
use Rattle.homeo_core.specs.Key.{definitions}
use Rattle.homeo_core.specs.Events.{closing_on}
use Rattle.homeo_core.specs.Starts.{AreStarts, waits}
use Rattle.homeo_core.proofs.StartsOfSites.{as_many}
use Rattle.homeo_core.proofs.prepared.prepare.Goals as goal

pub invariant_of-result-3 : goal.invariant_of-result-3
invariant_of-result-3 c =
    let w = c.args.c.now.value in
    let work : c.in_ok-try_clone.field-0.value ≡ w = c.in_ok-try_clone.ensures in
    let starts : AreStarts w c.into_parts-round.result.round c.in_ok-plan.plan.value.base.items c.in_ok-starts_after.field-0.items = c.in_ok-starts_after.ensures.starts in
    let plan : IsObjectPlan (plain_workload c.deref-2.result.now) c.run_call.new.database.items c.in_ok-plan.plan.value = c.in_ok-plan.ensures.plan in
    let next : c.next.inside.items.items ≡ c.run_call.new.database.items = ap (λ (l : Listed ℤ). l.items) c.next.view_is in
    let placed : AreStarts w c.into_parts-round.result.round c.next.inside.items.items c.in_ok-starts_after.field-0.items = subst (λ (b : List ℤ). AreStarts w c.into_parts-round.result.round b c.in_ok-starts_after.field-0.items) (plan.base ∙ sym next) starts in
    let waiting : map waits c.in_ok-starts_after.field-0.items ≡ replicate (sites_of (plain_workload w)) true = c.in_ok-starts_after.ensures.waiting in
    let here : c.workload-2.result.now ≡ w = c.workload-2.ensures ∙ c.deref-4.ensures in
    let segments : map plain_segment c.in_ok-empty_segments.field-0.items ≡ replicate (sites_of (plain_workload w)) [] = c.in_ok-empty_segments.ensures ∙ ap (λ v. replicate (sites_of (plain_workload v)) []) here in (
      c.in_ok-closing.ensures.answer,
      subst (λ (v : Workload). AreStarts v c.into_parts-round.result.round c.next.inside.items.items c.in_ok-starts_after.field-0.items) (sym work) placed,
      as_many plain_segment waits c.in_ok-empty_segments.field-0.items c.in_ok-starts_after.field-0.items (sites_of (plain_workload w)) [] true segments waiting,
    )

pub returns : goal.returns
unfolding definitions
returns c =
    let w = c.args.c.now.value in
    let call = c.args.call in
    let work : c.in_ok-try_clone.field-0.value ≡ w = c.in_ok-try_clone.ensures in
    let first : c.deref.result.now ≡ w = c.deref.ensures in
    let second : c.workload.result.now ≡ w = c.workload.ensures ∙ c.deref-3.ensures in
    let third : c.workload-2.result.now ≡ w = c.workload-2.ensures ∙ c.deref-4.ensures in
    let sum : c.into_parts-round.result.sum.items ≡ c.args.gather.sum = c.into_parts-round.ensures.sum in
    let outcome : call_outcome (plain_workload c.deref.result.now) call c.into_parts-round.result.sum.items ≡ call_outcome (plain_workload w) call c.args.gather.sum = (λ i. call_outcome (plain_workload (first i)) call (sum i)) in
    let prints : c.in_ok-prints.prints.items ≡ (call_outcome (plain_workload w) call c.args.gather.sum).prints = c.in_ok-prints.ensures.prints ∙ ap (λ (o : Outcome). o.prints) outcome in
    let database : c.run_call.new.database.items ≡ (call_outcome (plain_workload w) call c.args.gather.sum).database = c.in_ok-prints.ensures.database ∙ ap (λ (o : Outcome). o.database) outcome in
    let next : c.next.inside.items.items ≡ (call_outcome (plain_workload w) call c.args.gather.sum).database = ap (λ (l : Listed ℤ). l.items) c.next.view_is ∙ database in
    let round : c.into_parts-round.result.round ≡ c.args.gather.round = c.into_parts-round.ensures.round in
    let base : c.base.inside.items.items ≡ c.args.gather.base = ap (λ (l : Listed ℤ). l.items) c.base.view_is ∙ c.into_parts-round.ensures.base in
    let closing : plain_closing c.in_ok-closing.closing ≡ closing_on (plain_workload w) c.args.gather.sum (site_or_zero (plain_workload w) call) call c.args.broken =
    c.in_ok-closing.ensures.closing
    ∙ (λ i. record { site = site_or_zero (plain_workload (second i)) call; entry = record { call = call; prints = prints i }; broken = c.args.broken }) in
    let waiting : map waits c.in_ok-starts_after.field-0.items ≡ replicate (sites_of (plain_workload w)) true = c.in_ok-starts_after.ensures.waiting in
    let segments : map plain_segment c.in_ok-empty_segments.field-0.items ≡ replicate (sites_of (plain_workload w)) [] = c.in_ok-empty_segments.ensures ∙ ap (λ v. replicate (sites_of (plain_workload v)) []) third in
    (λ i. record { work = work i; round = round i; base = base i; closing = closing i; next = next i; segments = segments i; waiting = waiting i })

pub plan_after-requires-clause-last : goal.plan_after-requires-clause-last
plan_after-requires-clause-last c =
    subst (λ (v : Workload). IsObjectPlan (plain_workload v) c.args.last.now.base.items c.args.last.now) (sym c.deref-2.ensures) c.requires.last
