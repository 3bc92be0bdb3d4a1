use Rattle.homeo_live.specs.Key.{definitions}
use Rattle.std.proofs.Common.{◌<◌, map, refl, sym, ap, subst, ◌∙◌}
use Rattle.std.proofs.lemmas.Result.{on_ok_weaker}
use Rattle.homeo_syntax.specs.SourceView.{plain_workload}
use Rattle.homeo_syntax.specs.declared.workload.Workload.{Workload}
use Rattle.homeo_plan.specs.Planned.{sites_of}
use Rattle.homeo_nodes.specs.Nodes as n
use Rattle.homeo_carry.specs.CarryView.{plain_said}
use Rattle.homeo_live.specs.LiveView.{plain_packet, LiveValue}
use Rattle.homeo_live.specs.declared.packet.Packet.TheVariants as packet
use Rattle.homeo_live.proofs.Resending.{push_sent, own_sent}
use Rattle.homeo_live.proofs.live.LiveNode.resend_own.Goals as goal

pub returns-in_ok-copy-in-Some : goal.returns-in_ok-copy-in-Some
unfolding definitions
returns-in_ok-copy-in-Some c =
    let live = c.self.invariant in
    let said = c.in_ok-copy-in-Some.field-0 in
    let lt = subst (λ k. c.number.result < k) (ap (λ (v : Workload). sites_of (plain_workload v)) live.work_is ∙ sym live.count) c.number.ensures.below in
    let number = ap (λ (v : LiveValue). v.node.number) (sym c.self.view_is) in
    on_ok_weaker c.push.result (λ h. own_sent c.args.self.now.node c.self.inside.states.items c.number.result c.number-in-Some.result c.round.result c.index.result.now c.in-Some.said said (map plain_packet c.args.packets.now.items) (map plain_packet c.push.new.self.items) (ap (λ (v : LiveValue). v.node.states) (sym c.self.view_is)) (number ∙ sym c.number.ensures.number) (number ∙ sym c.number-in-Some.ensures.number) (ap (λ (v : LiveValue). v.node.round) (sym c.self.view_is) ∙ sym c.round.ensures) lt c.index.ensures c.in-Some.is c.in_ok-copy-in-Some.ensures (push_sent c.args.packets.now c.push.new.self _ (packet.State c.round.result c.number-in-Some.result said) (n.State c.round.result c.number-in-Some.result (plain_said said)) refl h)) c.push.ensures.ok
