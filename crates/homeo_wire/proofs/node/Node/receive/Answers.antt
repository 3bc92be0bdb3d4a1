use Rattle.homeo_wire.specs.Key.{definitions}
use Rattle.std.proofs.Common.{◌≡◌, ◌++◌, ◌<◌, map, sym, ap, subst, ◌∙◌, arith}
use Rattle.std.specs.Prelude.{IfOk}
use Rattle.std.proofs.lemmas.List.{append-nil}
use Rattle.homeo_syntax.specs.SourceView.{plain_workload}
use Rattle.homeo_wire.specs.declared.breach.Breach.{Breach}
use Rattle.homeo_wire.specs.inner.Ready.{CanTake, IsFrom}
use Rattle.homeo_wire.specs.inner.Reactions.{IsReaction}
use Rattle.homeo_wire.specs.Nodes as n
use Rattle.homeo_wire.specs.WireView.{plain_packet, plain_node}
use Rattle.homeo_wire.proofs.NodeViews.{if_more, state_sends}
use Rattle.homeo_wire.proofs.node.Node.receive.Goals as goal

pub stop-requires-clause-can : goal.stop-requires-clause-can
unfolding definitions
stop-requires-clause-can c =
    subst (CanTake (plain_workload c.args.planner.now) (plain_node c.args.self.now)) (ap plain_packet c.in-Stop.is) c.requires.can

pub keep-requires-clause-kept : goal.keep-requires-clause-kept
unfolding definitions
keep-requires-clause-kept c =
    let from : c.in-State.site < c.args.sites = subst (IsFrom c.args.sites) (ap plain_packet c.in-State.is) c.requires.from in
    let states = c.requires.states in
    omega (arith, from, states)

pub keep-requires-clause-can : goal.keep-requires-clause-can
unfolding definitions
keep-requires-clause-can c =
    subst (λ d. CanTake (plain_workload c.args.planner.now) (plain_node c.args.self.now) (n.State c.in-State.round c.in-State.site d)) (sym c.as_slice.ensures) (subst (CanTake (plain_workload c.args.planner.now) (plain_node c.args.self.now)) (ap plain_packet c.in-State.is) c.requires.can)

pub returns-in-Want-clause-reaction : goal.returns-in-Want-clause-reaction
unfolding definitions
returns-in-Want-clause-reaction c =
    let w = plain_workload c.args.planner.now in
    let old = plain_node c.args.self.now in
    let b : Breach = record { round = c.in-Want.round; site = c.in-Want.site; call = c.in-Want.call; broken = c.in-Want.broken } in
    subst (λ r. IfOk c.choose.result (IsReaction r c.choose.new.self c.args.packets.now.items c.choose.new.packets.items)) (ap (λ v. n.taken (plain_workload v) old (n.Want b)) c.requires.work ∙ ap (n.taken w old) (sym (ap plain_packet c.in-Want.is))) c.choose.ensures.reaction

pub returns-in-Stop-clause-reaction : goal.returns-in-Stop-clause-reaction
unfolding definitions
returns-in-Stop-clause-reaction c =
    let w = plain_workload c.args.planner.now in
    let old = plain_node c.args.self.now in
    subst (λ r. IfOk c.stop.result (IsReaction r c.stop.new.self c.args.packets.now.items c.stop.new.packets.items)) (ap (n.taken w old) (sym (ap plain_packet c.in-Stop.is))) c.stop.ensures.reaction

pub returns-in-State-clause-reaction : goal.returns-in-State-clause-reaction
unfolding definitions
returns-in-State-clause-reaction c =
    let w = plain_workload c.args.planner.now in
    let old = plain_node c.args.self.now in
    let packet = n.State c.in-State.round c.in-State.site c.as_slice.result.now in
    let is : n.taken w old packet ≡ n.taken w old (plain_packet c.args.packet) = ap (λ d. n.taken w old (n.State c.in-State.round c.in-State.site d)) c.as_slice.ensures ∙ ap (n.taken w old) (sym (ap plain_packet c.in-State.is)) in
    subst (λ r. IfOk c.keep.result (IsReaction r c.keep.new.self c.args.packets.now.items c.args.packets.now.items)) is (if_more c.keep.result _ (IsReaction (n.taken w old packet) c.keep.new.self c.args.packets.now.items c.args.packets.now.items) c.keep.ensures.reaction (λ s h. record {
      node = h.0;
      sends = sym (ap (λ ps. map plain_packet c.args.packets.now.items ++ ps) (state_sends w old c.in-State.round c.in-State.site c.as_slice.result.now) ∙ append-nil (map plain_packet c.args.packets.now.items));
      answer = h.1;
    }))
