use Rattle.homeo_live.specs.Key.{definitions}
use Rattle.std.proofs.Common.{◌<◌, ◌^◌, length, map, drop, refl, sym, ap, subst, ◌∙◌}
use Rattle.std.specs.Prelude.{is_some}
use Rattle.std.proofs.lemmas.Option.{MatchOption-at_some}
use Rattle.homeo_syntax.specs.SourceView.{plain_workload}
use Rattle.homeo_syntax.specs.declared.workload.Workload.{Workload}
use Rattle.homeo_plan.specs.Planned.{sites_of}
use Rattle.homeo_nodes.specs.Coming.{CanClose}
use Rattle.homeo_nodes.specs.Nodes.{own_calls}
use Rattle.homeo_carry.specs.CarryView.{plain_said, journal_of, IsClosed}
use Rattle.homeo_live.specs.LiveView.{LiveValue}
use Rattle.homeo_live.specs.declared.packet.Step.TheVariants as step
use Rattle.homeo_live.proofs.LiveClosings.{count_all, can_close, gone_view, gone_told, gone_live}
use Rattle.homeo_live.proofs.live.LiveNode.go_on.Goals as goal

pub count_made-made-requires : goal.count_made-made-requires
count_made-made-requires c =
    let long = c.requires.count ∙ ap (λ (v : LiveValue). sites_of (plain_workload v.work)) (sym c.self.view_is) in
    let many = ap length c.as_slice.ensures.value ∙ count_all c.args.states.now c.in_ok-all.all.items (sites_of (plain_workload c.self.inside.planner)) c.in_ok-all.ensures long in
    subst (λ k. c.number.result < k) (sym many) (subst (λ (v : Workload). c.number.result < sites_of (plain_workload v)) c.self.invariant.work_is c.number.ensures.below)

pub close-requires-clause-states : goal.close-requires-clause-states
close-requires-clause-states c =
    let long = c.requires.count ∙ ap (λ (v : LiveValue). sites_of (plain_workload v.work)) (sym c.self.view_is) in
    ap length c.as_slice-4.ensures.value ∙ count_all c.args.states.now c.in_ok-all.all.items (sites_of (plain_workload c.self.inside.planner)) c.in_ok-all.ensures long

pub invariant_of-self-in-Some : goal.invariant_of-self-in-Some
invariant_of-self-in-Some c =
    let i = c.self.inside in
    let all = c.in_ok-all.all.items in
    let closed = subst (λ l. IsClosed i.planner c.args.u (map plain_said l) i.site.state c.in-Some.closed) c.as_slice-4.ensures.value (MatchOption-at_some _ _ c.in-Some.closed c.in-Some.is c.in_ok-closed.ensures.closed) in
    let sites = c.site_count.ensures.count ∙ ap (λ (v : Workload). sites_of (plain_workload v)) (c.workload.ensures ∙ c.compiled.ensures) in
    let long = c.requires.count ∙ ap (λ (v : LiveValue). sites_of (plain_workload v.work)) (sym c.self.view_is) in
    let below = subst (λ k. k < sites_of (plain_workload i.planner)) c.number.ensures.number (subst (λ (v : Workload). c.number.result < sites_of (plain_workload v)) c.self.invariant.work_is c.number.ensures.below) in
    gone_live i.planner i.site.state c.self.invariant.empty i.mode i.decided i.states.items i.past i.queue.items c.args.u c.args.states.now all c.in_ok-all.ensures c.in-Some.closed closed i.bounds.items i.site c.close.new.planner c.in_ok-none.none.items c.site_count.result _ c.in_ok-queue.queue.items c.count_made-made.result c.self.invariant refl c.in_ok-closed.ensures.planner c.in_ok-none.ensures sites refl long below
    (c.in_ok-queue.ensures ∙ ap (drop c.count_made-made.result) c.as_slice-2.ensures.value)

pub returns-in-Some-clause-node : goal.returns-in-Some-clause-node
unfolding definitions
returns-in-Some-clause-node c =
    let i = c.self.inside in
    let all = c.in_ok-all.all.items in
    let closed = subst (λ l. IsClosed i.planner c.args.u (map plain_said l) i.site.state c.in-Some.closed) c.as_slice-4.ensures.value (MatchOption-at_some _ _ c.in-Some.closed c.in-Some.is c.in_ok-closed.ensures.closed) in
    let sites = c.site_count.ensures.count ∙ ap (λ (v : Workload). sites_of (plain_workload v)) (c.workload.ensures ∙ c.compiled.ensures) in
    let makes =
    c.count_made-made.ensures
    ∙ ap (λ l. length (own_calls c.args.u (map plain_said l) c.number.result)) c.as_slice.ensures.value
    ∙ ap (λ k. length (own_calls c.args.u (map plain_said all) k)) c.number.ensures.number in
    gone_view i.planner i.site.state c.self.invariant.empty i.mode i.decided i.states.items i.past i.queue.items c.args.u c.args.states.now all c.in_ok-all.ensures c.in-Some.closed closed c.args.self.now c.in_ok-none.none.items c.site_count.result (record { breach = c.args.u; states = c.in_ok-all.all }) c.in_ok-queue.queue.items c.count_made-made.result c.self.view_is c.in_ok-none.ensures sites refl
    (c.in_ok-queue.ensures ∙ ap (drop c.count_made-made.result) c.as_slice-2.ensures.value) makes

pub returns-in-Some-clause-came_to : goal.returns-in-Some-clause-came_to
unfolding definitions
returns-in-Some-clause-came_to c =
    let i = c.self.inside in
    let all = c.in_ok-all.all.items in
    let closed = subst (λ l. IsClosed i.planner c.args.u (map plain_said l) i.site.state c.in-Some.closed) c.as_slice-4.ensures.value (MatchOption-at_some _ _ c.in-Some.closed c.in-Some.is c.in_ok-closed.ensures.closed) in
    gone_told i.planner i.site.state c.self.invariant.empty i.mode i.decided i.states.items i.past i.queue.items c.args.u c.args.states.now all c.in_ok-all.ensures c.in-Some.closed closed c.args.self.now (step.Closed c.in-Some.closed.answers) c.self.view_is refl

pub returns-in-None-clause-closes : goal.returns-in-None-clause-closes
returns-in-None-clause-closes c can lt =
    let i = c.self.inside in
    let all = map plain_said c.in_ok-all.all.items in
    let closes = can_close i.planner i.site.state c.self.invariant.empty i.mode i.decided i.states.items i.past i.queue.items c.args.states.now c.args.u all c.args.self.now c.self.view_is can c.in_ok-all.ensures in
    sym (ap is_some c.in-None.is) ∙ c.in_ok-closed.ensures.closes (subst (λ l. CanClose (plain_workload i.planner) (journal_of i.site.state) c.args.u (map plain_said l)) (sym c.as_slice-4.ensures.value) closes) (subst (λ (v : LiveValue). v.node.round < 2 ^ 62) (sym c.self.view_is) lt)
