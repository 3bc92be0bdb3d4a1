use Rattle.std.proofs.Common.{◌≡◌, ◌+◌, ◌<◌, ◌^◌, length, map, ap, subst, ◌∙◌, arith}
use Rattle.std.proofs.lemmas.List.{length-map}
use Rattle.homeo_lemmas.proofs.Options.{if_some}
use Rattle.homeo_syntax.specs.Listed.{Listed}
use Rattle.homeo_syntax.specs.SourceView.{plain_workload}
use Rattle.homeo_syntax.specs.declared.workload.Workload.{Workload}
use Rattle.homeo_history.specs.HistoryView.{plain_answer}
use Rattle.homeo_nodes.specs.declared.breach.Breach.{Breach}
use Rattle.homeo_nodes.specs.Brief.{briefly_all}
use Rattle.homeo_nodes.specs.Nodes.{folded, carried}
use Rattle.homeo_plan.specs.Planned.{sites_of}
use Rattle.homeo_carry.specs.CarryView.{plain_said}
use Rattle.homeo_carry.specs.declared.answers.Answers.{Answers}
use Rattle.homeo_carry.specs.inner.Carrying.{plain_called, brief_of, deltas_said, closed_by, IsOf, IsNext}
use Rattle.homeo_carry.proofs.Closes.{said_fit, said_within, can_make_all, makes, is_closed}
use Rattle.homeo_carry.proofs.Outcomes.{some_of}
use Rattle.homeo_carry.proofs.closing.close.Goals as goal

pub returns-in_default-clause-closes : goal.returns-in_default-clause-closes
returns-in_default-clause-closes c can early =
    absurd (c.in_default.not-Some _ (some_of c.in_ok-whole.field-0 (c.in_ok-whole.ensures.fits (said_fit c.args.planner.now c.args.u c.args.states.now c.args.site.now.state c.requires.accepted can c.as_slice.result.now (c.as_slice.ensures ∙ c.base.ensures.base)))).1)

pub returns-in_default-2-clause-closes : goal.returns-in_default-2-clause-closes
returns-in_default-2-clause-closes c can early =
    let sum = if_some (λ (d : Listed _). d.items ≡ folded c.as_slice.result.now (deltas_said c.args.states.now)) c.in_ok-whole.field-0 c.in-Some.whole c.in_ok-whole.ensures.sum c.in-Some.is in
    let within = said_within c.args.planner.now c.args.u c.args.states.now c.args.site.now.state c.requires.accepted can c.as_slice.result.now (c.as_slice.ensures ∙ c.base.ensures.base) c.in-Some.whole.items sum in
    let small : c.round.result + 1 < 2 ^ 64 = let e = c.round.ensures in omega (arith, e, early) in
    absurd (c.in_default-2.not-Some _ (some_of c.in_ok-next.field-0 (c.in_ok-next.ensures.goes_on within small)).1)

pub returns-in_default-3-clause-closes : goal.returns-in_default-3-clause-closes
returns-in_default-3-clause-closes c can early =
    let work = c.args.planner.now in
    let x = c.args.site.now.state in
    let lt : x.number < sites_of (plain_workload work) = subst (λ n. n < sites_of (plain_workload work)) c.number.ensures.number (subst (λ v. c.number.result < sites_of (plain_workload v)) c.requires.work c.number.ensures.below) in
    let here : Breach = record { round = c.round.result; site = c.args.u.site; call = c.args.u.call; broken = c.args.u.broken } in
    let sum = if_some (λ (d : Listed _). d.items ≡ folded c.as_slice.result.now (deltas_said c.args.states.now)) c.in_ok-whole.field-0 c.in-Some.whole c.in_ok-whole.ensures.sum c.in-Some.is ∙ ap (λ b. folded b (deltas_said c.args.states.now)) (c.as_slice.ensures ∙ c.base.ensures.base) in
    let begins = if_some (IsNext c.none-answers.result (closed_by (plain_workload work) c.none-answers.result.own here c.in-Some.whole.items)) c.in_ok-next.field-0 c.in-Some-2.next c.in_ok-next.ensures.next c.in-Some-2.is in
    let calls_are : map plain_called c.in_ok-calls.calls.items ≡ carried (plain_workload work) c.args.u (map plain_said c.args.states.now) = c.in_ok-calls.ensures ∙ ap (λ (v : Workload). carried (plain_workload v) c.args.u (map plain_said c.args.states.now)) (c.workload.ensures ∙ c.compiled.ensures) in
    let few : length (carried (plain_workload work) c.args.u (map plain_said c.args.states.now)) < 2 ^ 63 = let e = ap length calls_are in let f = length-map c.in_ok-calls.calls.items plain_called in let g = c.in_ok-calls.calls.ok in let h = c.in_ok-calls.calls.small in omega (arith, e, f, g.0, g.1, h) in
    let can_all = can_make_all work c.args.u c.args.states.now x c.requires.states lt c.requires.accepted can few early in
    let can_next = makes work c.args.u c.args.states.now x c.requires.states lt c.none-answers.result (ap (λ (a : Answers). a.own) c.none-answers.ensures ∙ c.number.ensures.number) (ap (λ (a : Answers). map plain_answer a.given.items) c.none-answers.ensures) here c.in-Some.whole.items (ap (λ r. record { round = r; site = c.args.u.site; call = c.args.u.call; broken = c.args.u.broken }) c.round.ensures) sum c.in-Some-2.next begins c.next_round.new.planner (map plain_called c.as_slice-2.result.now) c.in_ok-next.ensures.planner (ap (map plain_called) c.as_slice-2.ensures.value ∙ calls_are) can_all in
    absurd (c.in_default-3.not-Some _ (some_of c.in_ok-made.field-0 (c.in_ok-made.ensures.makes can_next)).1)

pub returns-clause-closed : goal.returns-clause-closed
returns-clause-closed c =
    let work = c.args.planner.now in
    let x = c.args.site.now.state in
    let lt : x.number < sites_of (plain_workload work) = subst (λ n. n < sites_of (plain_workload work)) c.number.ensures.number (subst (λ v. c.number.result < sites_of (plain_workload v)) c.requires.work c.number.ensures.below) in
    let here : Breach = record { round = c.round.result; site = c.args.u.site; call = c.args.u.call; broken = c.args.u.broken } in
    let sum = if_some (λ (d : Listed _). d.items ≡ folded c.as_slice.result.now (deltas_said c.args.states.now)) c.in_ok-whole.field-0 c.in-Some.whole c.in_ok-whole.ensures.sum c.in-Some.is ∙ ap (λ b. folded b (deltas_said c.args.states.now)) (c.as_slice.ensures ∙ c.base.ensures.base) in
    let begins = if_some (IsNext c.none-answers.result (closed_by (plain_workload work) c.none-answers.result.own here c.in-Some.whole.items)) c.in_ok-next.field-0 c.in-Some-2.next c.in_ok-next.ensures.next c.in-Some-2.is in
    let calls_are : map plain_called c.in_ok-calls.calls.items ≡ carried (plain_workload work) c.args.u (map plain_said c.args.states.now) = c.in_ok-calls.ensures ∙ ap (λ (v : Workload). carried (plain_workload v) c.args.u (map plain_said c.args.states.now)) (c.workload.ensures ∙ c.compiled.ensures) in
    let next = c.in-Some-2.next in
    let more = if_some (IsNext next.answers (briefly_all (plain_workload c.next_round.new.planner) next.answers.own (map plain_called c.as_slice-2.result.now) (brief_of next))) c.in_ok-made.field-0 c.in-Some-3.made c.in_ok-made.ensures.next c.in-Some-3.is in
    let more' = subst (λ p. IsNext next.answers (briefly_all (plain_workload p) next.answers.own (map plain_called c.as_slice-2.result.now) (brief_of next)) c.in-Some-3.made) c.in_ok-next.ensures.planner more in
    let holds = subst (λ p. IsOf p c.in-Some-3.made) c.in_ok-next.ensures.planner (if_some (IsOf c.next_round.new.planner) c.in_ok-made.field-0 c.in-Some-3.made c.in_ok-made.ensures.holds c.in-Some-3.is) in
    is_closed work c.args.u c.args.states.now x c.requires.states lt c.none-answers.result (ap (λ (a : Answers). a.own) c.none-answers.ensures ∙ c.number.ensures.number) (ap (λ (a : Answers). map plain_answer a.given.items) c.none-answers.ensures) here c.in-Some.whole.items (ap (λ r. record { round = r; site = c.args.u.site; call = c.args.u.call; broken = c.args.u.broken }) c.round.ensures) sum next begins (map plain_called c.as_slice-2.result.now) (ap (map plain_called) c.as_slice-2.ensures.value ∙ calls_are) c.in-Some-3.made more' holds c.outcome_of.result c.outcome_of.ensures.site c.outcome_of.ensures.answers
