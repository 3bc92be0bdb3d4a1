use Rattle.homeo_live.specs.Key.{definitions}
use Rattle.std.proofs.Common.{refl, sym, ap, subst, ◌∙◌}
use Rattle.std.specs.Prelude.{IfOk, IfSome}
use Rattle.homeo_syntax.specs.SourceView.{plain_workload}
use Rattle.homeo_nodes.specs.Coming.{CanCome}
use Rattle.homeo_nodes.specs.Nodes as n
use Rattle.homeo_nodes.specs.Small.{grown}
use Rattle.homeo_carry.specs.CarryView.{plain_said}
use Rattle.homeo_live.specs.declared.packet.Step.TheVariants as step
use Rattle.homeo_live.specs.LiveView.{LiveValue, plain_packet, IsReaction}
use Rattle.homeo_live.proofs.LiveViews.{idle_is}
use Rattle.homeo_live.proofs.LivePackets.{received_own, received_other, state_reaction, ok_both}
use Rattle.homeo_live.proofs.live.LiveNode.receive.Goals as goal

pub returns-then-round-clause-reaction : goal.returns-then-round-clause-reaction
unfolding definitions
returns-then-round-clause-reaction c =
    let w = plain_workload c.args.self.now.work in
    let y = c.args.self.now.node in
    idle_is (n.received w (plain_packet c.args.packet) _) y c.args.packets.now.items c.args.packets.now.items step.Ignored n.Ignored (received_other w (plain_packet c.args.packet) y (λ e. c.if-round.true (c.round.ensures ∙ e ∙ ap (λ (v : LiveValue). v.node.round) (sym c.self.view_is) ∙ sym c.round-2.ensures))) refl refl

pub returns-in-Want-clause-reaction : goal.returns-in-Want-clause-reaction
unfolding definitions
returns-in-Want-clause-reaction c =
    let w = plain_workload c.args.self.now.work in
    let y = c.args.self.now.node in
    let own = received_own w (plain_packet c.args.packet) y (sym c.round.ensures ∙ c.if-round.false ∙ c.round-2.ensures ∙ ap (λ (v : LiveValue). v.node.round) c.self.view_is) in
    subst (λ r. IfOk c.choose.result (λ o. IfSome o (IsReaction r c.choose.new.self.node c.args.packets.now.items c.choose.new.packets.items))) (ap (n.taken w _) (sym (ap plain_packet c.in-Want.is)) ∙ sym own) c.choose.ensures.reaction

pub returns-in-Stop-clause-reaction : goal.returns-in-Stop-clause-reaction
unfolding definitions
returns-in-Stop-clause-reaction c =
    let w = plain_workload c.args.self.now.work in
    let y = c.args.self.now.node in
    let own = received_own w (plain_packet c.args.packet) y (sym c.round.ensures ∙ c.if-round.false ∙ c.round-2.ensures ∙ ap (λ (v : LiveValue). v.node.round) c.self.view_is) in
    subst (λ r. IfOk c.stop.result (λ o. IfSome o (IsReaction r c.stop.new.self.node c.args.packets.now.items c.stop.new.packets.items))) (ap (n.taken w _) (sym (ap plain_packet c.in-Stop.is)) ∙ sym own) c.stop.ensures.reaction

pub returns-in-State-clause-reaction : goal.returns-in-State-clause-reaction
unfolding definitions
returns-in-State-clause-reaction c =
    let w = plain_workload c.args.self.now.work in
    let y = c.args.self.now.node in
    let said = plain_said c.in-State.said in
    let at = sym c.round.ensures ∙ c.if-round.false ∙ c.round-2.ensures ∙ ap (λ (v : LiveValue). v.node.round) c.self.view_is in
    let own = received_own w (plain_packet c.args.packet) y at in
    let is = own ∙ ap (n.taken w _) (ap plain_packet c.in-State.is ∙ ap (λ r. n.State r c.in-State.site said) (sym (ap (λ p. n.round_of (plain_packet p)) c.in-State.is) ∙ at)) in
    ok_both c.keep.result (λ s. state_reaction w y _ (plain_packet c.args.packet) y.round c.in-State.site said c.args.packets.now.items s is) c.keep.ensures.node c.keep.ensures.came_to

pub returns-in-Want-clause-comes : goal.returns-in-Want-clause-comes
unfolding definitions
returns-in-Want-clause-comes c h lt =
    c.choose.ensures.comes (subst (CanCome (plain_workload c.args.self.now.work) (grown c.args.self.now.node)) (ap plain_packet c.in-Want.is) h) lt

pub returns-in-Stop-clause-comes : goal.returns-in-Stop-clause-comes
unfolding definitions
returns-in-Stop-clause-comes c h lt =
    c.stop.ensures.comes (subst (CanCome (plain_workload c.args.self.now.work) (grown c.args.self.now.node)) (ap plain_packet c.in-Stop.is) h) lt

pub returns-in-State-clause-comes : goal.returns-in-State-clause-comes
unfolding definitions
returns-in-State-clause-comes c h lt =
    let at = sym c.round.ensures ∙ c.if-round.false ∙ c.round-2.ensures ∙ ap (λ (v : LiveValue). v.node.round) c.self.view_is in
    c.keep.ensures.comes (subst (CanCome (plain_workload c.args.self.now.work) (grown c.args.self.now.node)) (ap plain_packet c.in-State.is ∙ ap (λ r. n.State r c.in-State.site (plain_said c.in-State.said)) (sym (ap (λ p. n.round_of (plain_packet p)) c.in-State.is) ∙ at)) h) lt
