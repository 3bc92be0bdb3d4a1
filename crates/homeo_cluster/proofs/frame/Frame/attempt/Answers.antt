use Rattle.homeo_site.specs.Key.{definitions as site_definitions}
use Rattle.homeo_history.specs.Key.{definitions as history_definitions}
use Rattle.std.proofs.Common.{rules, ◌≡◌, suc, ◌+◌, ◌-◌, ◌<◌, ◌≤◌, List, [], ◌∷◌, ◌++◌, length, map, Some, All, refl, sym, ap, subst, ◌∙◌, arith}
use Rattle.std.proofs.lemmas.List.{length-map, map-append}
use Rattle.homeo_syntax.specs.SourceView.{plain_workload}
use Rattle.homeo_meaning.specs.declared.call.CallId.{CallId}
use Rattle.homeo_notes.specs.Lines.{IsOwner, HasSeen, list_at}
use Rattle.homeo_history.specs.Answers.{Answer, local_answer}
use Rattle.homeo_history.specs.HistoryView.{plain_answer}
use Rattle.homeo_history.specs.Legal.{IsClientAt, IsCallAt, call_count}
use Rattle.homeo_history.proofs.Exists.{is_call_at}
use Rattle.homeo_site.specs.Attempts.{IsChange}
use Rattle.homeo_site.specs.SiteState.{SiteState, after_local, local_entry, step_prints, step_finding}
use Rattle.homeo_site.specs.SiteView.{SiteValue}
use Rattle.homeo_assembly.specs.Written.{written}
use Rattle.homeo_cluster.specs.Passes.{IsReplied, next_call}
use Rattle.homeo_cluster.specs.Places.{asked_line, done_line}
use Rattle.homeo_cluster.specs.inner.Grows.{Grew}
use Rattle.homeo_cluster.proofs.Passes.{pass_more}
use Rattle.homeo_cluster.proofs.frame.Frame.attempt.Goals as goal
use Rattle.homeo_cluster.proofs.frame.Frame.attempt.Goals.{After-cell, After-two_answers-answer, After-push_reserved}
use Rattle.homeo_cluster.proofs.frame.Frame.attempt.Given.{Over}

-- ---- the pass's next call
abbrev log_of : (g : Over) (c : After-cell g) → List Answer
log_of g c = map plain_answer c.pass.inside.log.items

next : (g : Over) (c : After-cell g) → c.next-call.result ≡ record { client = c.pass.inside.client; seq = suc (length (log_of g c)) }
next g c = search rules

home : (g : Over) (c : After-cell g) → IsClientAt g.N.ClusterNaming.workload c.cell.inside.site.state.number c.pass.inside.client
home g c = search rules

left : (g : Over) (c : After-cell g) → 0 < c.pass.inside.left
left g c = search rules

is_call : (g : Over) (c : After-cell g) → IsCallAt g.N.ClusterNaming.workload c.cell.inside.site.state.number c.next-call.result
is_call g c =
    let w = g.N.ClusterNaming.workload in
    let all : length (log_of g c) + c.pass.inside.left ≡ call_count w c.pass.inside.client = c.pass.invariant.logged.all in
    let some : 0 < c.pass.inside.left = left g c in
    let le : suc (length (log_of g c)) ≤ call_count w c.pass.inside.client = omega (arith, all, some) in
    subst (IsCallAt w c.cell.inside.site.state.number) (sym (next g c))
    (is_call_at w c.cell.inside.site.state.number (record { client = c.pass.inside.client; seq = suc (length (log_of g c)) }) (home g c) (omega arith) le)

pub room-requires : goal.room-requires
room-requires g c =
    let e = (goal.at.room-requires g c).After-cell in
    subst (λ w. IsCallAt w c.cell.inside.site.state.number c.next-call.result) (sym c.cell.invariant.work) (is_call g e)

-- ---- the site after it took room is as it was
pub attempt_in-requires-clause-call : goal.attempt_in-requires-clause-call
attempt_in-requires-clause-call g c =
    let e = (goal.at.attempt_in-requires-clause-call g c).After-cell in
    let state : c.room.new.self.state ≡ c.cell.inside.site.state = ap (λ (v : SiteValue). v.state) c.room.ensures.state in
    let work : plain_workload c.room.new.self.work ≡ g.N.ClusterNaming.workload = ap (λ (v : SiteValue). plain_workload v.work) c.room.ensures.state ∙ c.cell.invariant.work in
    subst (λ w. IsCallAt w c.room.new.self.state.number c.next-call.result) (sym work)
    (subst (λ (x : SiteState). IsCallAt g.N.ClusterNaming.workload x.number c.next-call.result) (sym state) (is_call g e))

-- ---- where it keeps the treaty
state_is : (g : Over) (c : After-two_answers-answer g) → c.room.new.self.state ≡ c.cell.inside.site.state
state_is g c = ap (λ (v : SiteValue). v.state) c.room.ensures.state

workload_is : (g : Over) (c : After-two_answers-answer g) → plain_workload c.room.new.self.work ≡ g.N.ClusterNaming.workload
workload_is g c = ap (λ (v : SiteValue). plain_workload v.work) c.room.ensures.state ∙ c.cell.invariant.work

is_change : (g : Over) (c : After-two_answers-answer g) → IsChange g.N.ClusterNaming.workload c.room.new.self.state c.next-call.result c.in-Keeps.change
unfolding site_definitions
is_change g c =
    let is : IsChange (plain_workload c.room.new.self.work) c.room.new.self.state c.next-call.result c.in-Keeps.change = c.in-Keeps.ensures.outcome in
    subst (λ w. IsChange w c.room.new.self.state c.next-call.result c.in-Keeps.change) (workload_is g c) is

call_is : (g : Over) (c : After-two_answers-answer g) → c.in-Keeps.change.call ≡ record { client = c.pass.inside.client; seq = suc (length (map plain_answer c.pass.inside.log.items)) }
call_is g c = (is_change g c).call ∙ search rules

client_is : (g : Over) (c : After-two_answers-answer g) → c.in-Keeps.change.call.client ≡ c.pass.inside.client
client_is g c = ap (λ (k : CallId). k.client) (call_is g c)

pub make-requires-clause-call : goal.make-requires-clause-call
make-requires-clause-call g c =
    let e = (goal.at.make-requires-clause-call g c).After-two_answers-answer in
    let d = (goal.at.make-requires-clause-call g c).After-cell in
    subst (IsCallAt g.N.ClusterNaming.workload c.room.new.self.state.number) (sym (is_change g e).call)
    (subst (λ (x : SiteState). IsCallAt g.N.ClusterNaming.workload x.number c.next-call.result) (sym (state_is g e)) (is_call g d))

pub make-requires-clause-change : goal.make-requires-clause-change
make-requires-clause-change g c =
    let e = (goal.at.make-requires-clause-change g c).After-two_answers-answer in
    let is = is_change g e in
    subst (λ k. IsChange g.N.ClusterNaming.workload c.room.new.self.state k c.in-Keeps.change) (sym is.call) is

pub make-requires-clause-owns : goal.make-requires-clause-owns
make-requires-clause-owns g c =
    let e = (goal.at.make-requires-clause-owns g c).After-two_answers-answer in
    subst (λ n. IsOwner c.pass.inside.holder (asked_line n)) (sym (client_is g e)) c.pass.invariant.holds.owns

pub make-requires-clause-seen : goal.make-requires-clause-seen
make-requires-clause-seen g c =
    let e = (goal.at.make-requires-clause-seen g c).After-two_answers-answer in
    subst (λ n. HasSeen c.pass.inside.holder (done_line g.N.ClusterNaming.workload n) (list_at c.pass.inside.holder (asked_line n))) (sym (client_is g e)) c.pass.invariant.holds.seen

pub make-requires-clause-few : goal.make-requires-clause-few
make-requires-clause-few g c =
    let e = (goal.at.make-requires-clause-few g c).After-two_answers-answer in
    subst (λ (k : CallId). k.seq ≤ 9223372036854775808) (sym (is_change g e).call) c.next-call.ensures.few

pub make-requires-clause-next : goal.make-requires-clause-next
make-requires-clause-next g c =
    let e = (goal.at.make-requires-clause-next g c).After-two_answers-answer in
    ap (λ (k : CallId). k.seq) (call_is g e)
    ∙ ap suc (sym (length-map (map plain_answer c.pass.inside.log.items) written) ∙ ap length (sym c.pass.invariant.holds.asked) ∙ ap (λ n. length (list_at c.pass.inside.holder (asked_line n))) (sym (client_is g e)))

-- ---- the answer
abbrev reply : (g : Over) (c : After-two_answers-answer g) → Answer
reply g c = local_answer c.room.new.self.state.round c.room.new.self.state.number (local_entry g.N.ClusterNaming.workload c.room.new.self.state c.in-Keeps.change.call)

answer_is : (g : Over) (c : After-two_answers-answer g) → (plain_answer c.two_answers-answer.result.0 ≡ reply g c) × (plain_answer c.two_answers-answer.result.1 ≡ reply g c)
unfolding site_definitions
answer_is g c =
    let w = g.N.ClusterNaming.workload in
    let x : SiteState = c.room.new.self.state in
    let is = is_change g c in
    let all : All (λ p. p.items ≡ c.in-Keeps.change.prints.items) c.attempt_in.new.answers.items = c.in-Keeps.ensures.answers in
    let round : c.round-round.result ≡ x.round = c.round-round.ensures in
    let number : c.number-site.result ≡ x.number = c.number-site.ensures in
    let same : local_answer c.round-round.result c.number-site.result (record { call = c.next-call.result; prints = c.in-Keeps.change.prints.items }) ≡ reply g c =
    (λ i. local_answer (round i) (number i) (record { call = sym is.call i; prints = (is.prints ∙ ap (λ k. step_prints w x k) (sym is.call)) i })) in
    (c.two_answers-answer.ensures.first c.in-Keeps.change.prints.items all ∙ same, c.two_answers-answer.ensures.second c.in-Keeps.change.prints.items all ∙ same)

-- whose answer it is
whose : (g : Over) (c : After-two_answers-answer g) → ((reply g c).client ≡ c.pass.inside.client) × ((reply g c).seq ≡ suc (length (map plain_answer c.pass.inside.log.items))) × ((reply g c).site ≡ c.cell.inside.site.state.number)
unfolding history_definitions site_definitions
whose g c =
    let call = call_is g c in
    (ap (λ (k : CallId). k.client) call, ap (λ (k : CallId). k.seq) call, ap (λ (x : SiteState). x.number) (state_is g c))

log_now : (g : Over) (c : After-push_reserved g) (a : Answer) → plain_answer c.two_answers-answer.result.1 ≡ a → map plain_answer c.push_reserved.new.log.items ≡ map plain_answer c.pass.inside.log.items ++ a ∷ []
log_now g c a e =
    let reserved : c.reserve.new.self.items ≡ c.pass.inside.log.items = search rules in
    ap (map plain_answer) c.push_reserved.ensures
    ∙ map-append plain_answer c.reserve.new.self.items (c.two_answers-answer.result.1 ∷ [])
    ∙ (λ i. map plain_answer (reserved i) ++ e i ∷ [])

pub invariant_of-pass-in-Keeps : goal.invariant_of-pass-in-Keeps
invariant_of-pass-in-Keeps g c =
    let w = g.N.ClusterNaming.workload in
    let d = (goal.at.invariant_of-pass-in-Keeps g c).After-push_reserved in
    let e = (goal.at.invariant_of-pass-in-Keeps g c).After-two_answers-answer in
    let some : 0 < c.pass.inside.left = search rules in
    let is = whose g e in
    let client = client_is g e in
    pass_more w c.pass.inside.client c.pass.inside.left (c.pass.inside.left - 1) (map plain_answer c.pass.inside.log.items) (map plain_answer c.push_reserved.new.log.items) c.pass.inside.holder c.make.new.asker (reply g e)
    c.pass.invariant (omega (arith, some)) (log_now g d (reply g e) (answer_is g e).1) is.0 is.1
    (subst (λ n. Grew c.pass.inside.holder c.make.new.asker (asked_line n) (written (reply g e))) client c.make.ensures.asked)
    (subst (λ n. HasSeen c.make.new.asker (done_line w n) (list_at c.make.new.asker (asked_line n))) client c.make.ensures.seen)

pub returns-in-Keeps-clause-tried : goal.returns-in-Keeps-clause-tried
unfolding history_definitions
returns-in-Keeps-clause-tried g c =
    let w = g.N.ClusterNaming.workload in
    let d = (goal.at.returns-in-Keeps-clause-tried g c).After-push_reserved in
    let e = (goal.at.returns-in-Keeps-clause-tried g c).After-two_answers-answer in
    let f = (goal.at.returns-in-Keeps-clause-tried g c).After-cell in
    let some : 0 < c.pass.inside.left = left g f in
    let is = whose g e in
    let was : c.args.pass.now ≡ record { client = c.pass.inside.client; left = c.pass.inside.left; log = map plain_answer c.pass.inside.log.items; held = c.pass.inside.holder } = search rules in
    let state : c.room.new.self.state ≡ c.args.cell.now.site.state = state_is g e ∙ search rules in
    let call : c.in-Keeps.change.call ≡ next_call c.args.pass.now = (is_change g e).call ∙ c.next-call.ensures.call in (
      subst (λ a. IsReplied w c.args.pass.now (record { client = c.pass.inside.client; left = c.pass.inside.left - 1; log = map plain_answer c.push_reserved.new.log.items; held = c.make.new.asker }) a) (sym (answer_is g e).0)
          (subst (λ p. IsReplied w p (record { client = c.pass.inside.client; left = c.pass.inside.left - 1; log = map plain_answer c.push_reserved.new.log.items; held = c.make.new.asker }) (reply g e)) (sym was) (record {
            client = refl;
            left = omega (arith, some);
            log = log_now g d (reply g e) (answer_is g e).1;
            call = λ i. record { client = is.0 i; seq = is.1 i };
            site = subst (λ n. IsClientAt w n c.pass.inside.client) (sym is.2) (home g f);
          })),
      c.make.ensures.made ∙ (λ i. after_local w (state i) (call i)),
    )

pub returns-in-Breaks-clause-tried : goal.returns-in-Breaks-clause-tried
unfolding site_definitions
returns-in-Breaks-clause-tried g c =
    let w = g.N.ClusterNaming.workload in
    let reserved : c.reserve.new.self.items ≡ c.pass.inside.log.items = search rules in
    let was : record { client = c.pass.inside.client; left = c.pass.inside.left; log = map plain_answer c.pass.inside.log.items; held = c.pass.inside.holder } ≡ c.args.pass.now = search rules in
    let inside : c.room.new.self.state ≡ c.cell.inside.site.state = ap (λ (v : SiteValue). v.state) c.room.ensures.state in
    let state : c.room.new.self.state ≡ c.args.cell.now.site.state = inside ∙ search rules in
    let work : plain_workload c.room.new.self.work ≡ w = ap (λ (v : SiteValue). plain_workload v.work) c.room.ensures.state ∙ c.cell.invariant.work in
    let broken : step_finding (plain_workload c.room.new.self.work) c.room.new.self.state c.next-call.result ≡ Some c.in-Breaks.broken = c.in-Breaks.ensures.outcome in (
      (λ i. record { client = c.pass.inside.client; left = c.pass.inside.left; log = map plain_answer (reserved i); held = c.pass.inside.holder }) ∙ was,
      state,
      (λ i. step_finding (sym work i) (sym state i) (sym c.next-call.ensures.call i)) ∙ broken,
    )
