use Rattle.homeo_live.specs.Key.{definitions}
use Rattle.std.proofs.Common.{◌<◌, length, map, Some, sym, ap, subst, ◌∙◌, slice_set}
use Rattle.std.proofs.lemmas.Option.{IfSome_then}
use Rattle.std.proofs.lemmas.Result.{IfOk-weaker}
use Rattle.homeo_syntax.specs.SourceView.{plain_workload}
use Rattle.homeo_plan.specs.Planned.{sites_of}
use Rattle.homeo_nodes.specs.Nodes as n
use Rattle.homeo_carry.specs.CarryView.{plain_said}
use Rattle.homeo_live.specs.LiveView.{plain_state, LiveValue}
use Rattle.homeo_live.proofs.LivePackets.{left_state, left_node, keep_node, keep_step, come_state, settle_state}
use Rattle.homeo_live.proofs.live.LiveNode.keep.Goals as goal

pub returns-then-has_state-clause-node : goal.returns-then-has_state-clause-node
unfolding definitions
returns-then-has_state-clause-node c =
    let w = plain_workload c.args.self.now.work in
    let y = c.args.self.now.node in
    let there = ap (λ (v : LiveValue). n.has_state v.node.states c.args.site) (sym c.self.view_is) ∙ ap (λ xs. n.has_state (map plain_state xs) c.args.site) (sym c.as_slice-2.ensures.value) ∙ sym c.has_state.ensures ∙ c.if-has_state.true in
    left_node w y (n.State y.round c.args.site (plain_said c.args.said.now)) (left_state w y y.round c.args.site (plain_said c.args.said.now) there)

pub returns-then-has_state-clause-came_to : goal.returns-then-has_state-clause-came_to
unfolding definitions
returns-then-has_state-clause-came_to c =
    let w = plain_workload c.args.self.now.work in
    let y = c.args.self.now.node in
    let there = ap (λ (v : LiveValue). n.has_state v.node.states c.args.site) (sym c.self.view_is) ∙ ap (λ xs. n.has_state (map plain_state xs) c.args.site) (sym c.as_slice-2.ensures.value) ∙ sym c.has_state.ensures ∙ c.if-has_state.true in
    ap (λ (r : n.Reaction). r.step) (sym (left_state w y y.round c.args.site (plain_said c.args.said.now) there))

pub returns-clause-node : goal.returns-clause-node
returns-clause-node c =
    let said = plain_said c.args.said.now in
    let free = ap (λ (v : LiveValue). n.has_state v.node.states c.args.site) (sym c.self.view_is) ∙ ap (λ xs. n.has_state (map plain_state xs) c.args.site) (sym c.as_slice-2.ensures.value) ∙ sym c.has_state.ensures ∙ c.if-has_state.false in
    let put = c.in_ok-states.ensures ∙ ap (λ xs. slice_set (map plain_state xs) c.args.site (Some said)) c.as_slice-3.ensures.value ∙ ap (λ (v : LiveValue). slice_set v.node.states c.args.site (Some said)) c.self.view_is in
    IfOk-weaker c.settle-2.result _ _ (λ o h. IfSome_then o h (λ s. keep_node c.args.self.now c.settle.inside.mode (map plain_state c.in_ok-states.states.items) c.args.self.now.node.round c.args.site said _ (ap (λ (v : LiveValue). v.node.mode) c.settle.view_is) put free)) c.settle-2.ensures.node

pub returns-clause-came_to : goal.returns-clause-came_to
returns-clause-came_to c =
    let said = plain_said c.args.said.now in
    let free = ap (λ (v : LiveValue). n.has_state v.node.states c.args.site) (sym c.self.view_is) ∙ ap (λ xs. n.has_state (map plain_state xs) c.args.site) (sym c.as_slice-2.ensures.value) ∙ sym c.has_state.ensures ∙ c.if-has_state.false in
    let put = c.in_ok-states.ensures ∙ ap (λ xs. slice_set (map plain_state xs) c.args.site (Some said)) c.as_slice-3.ensures.value ∙ ap (λ (v : LiveValue). slice_set v.node.states c.args.site (Some said)) c.self.view_is in
    IfOk-weaker c.settle-2.result _ _ (λ o h. IfSome_then o h (λ s. keep_step c.args.self.now c.settle.inside.mode (map plain_state c.in_ok-states.states.items) c.args.self.now.node.round c.args.site said s (ap (λ (v : LiveValue). v.node.mode) c.settle.view_is) put free)) c.settle-2.ensures.came_to

pub returns-then-not-has_place-clause-comes : goal.returns-then-not-has_place-clause-comes
returns-then-not-has_place-clause-comes c h lt =
    let there = come_state (plain_workload c.args.self.now.work) c.args.self.now.node c.args.self.now.node.round c.args.site (plain_said c.args.said.now) h in
    c.if-not-has_place.ensures.no (subst (λ k. c.args.site < k) (ap (λ (v : LiveValue). sites_of (plain_workload v.work)) (sym c.self.view_is) ∙ sym c.self.invariant.count ∙ ap length (sym c.as_slice.ensures.value)) there)

pub returns-clause-comes : goal.returns-clause-comes
returns-clause-comes c h lt =
    let said = plain_said c.args.said.now in
    let put = c.in_ok-states.ensures ∙ ap (λ xs. slice_set (map plain_state xs) c.args.site (Some said)) c.as_slice-3.ensures.value ∙ ap (λ (v : LiveValue). slice_set v.node.states c.args.site (Some said)) c.self.view_is in
    c.settle-2.ensures.closes (settle_state (plain_workload c.args.self.now.work) c.args.self.now.node c.args.self.now.node.round c.args.site said c.settle.inside.mode (map plain_state c.in_ok-states.states.items) h (ap (λ (v : LiveValue). v.node.mode) c.settle.view_is) put) lt
