use Rattle.homeo_live.specs.Key.{definitions}
use Rattle.std.proofs.Common.{map, refl, sym, ap, ◌∙◌}
use Rattle.std.proofs.lemmas.Result.{on_ok_weaker}
use Rattle.homeo_nodes.specs.Nodes as n
use Rattle.homeo_live.specs.LiveView.{plain_packet, LiveValue}
use Rattle.homeo_live.specs.declared.packet.Packet.TheVariants as packet
use Rattle.homeo_live.proofs.Resending.{push_sent, running_sends, waiting_sends, stopped_sends}
use Rattle.homeo_live.proofs.live.LiveNode.resend_mode.Goals as goal

pub returns-in-Running : goal.returns-in-Running
returns-in-Running c =
    running_sends c.args.self.now.node (map plain_packet c.args.packets.now.items) (ap (λ (v : LiveValue). v.node.mode) (sym c.self.view_is) ∙ c.in-Running.is)

pub returns-in-Waiting : goal.returns-in-Waiting
unfolding definitions
returns-in-Waiting c =
    on_ok_weaker c.push.result (λ h. waiting_sends c.args.self.now.node c.in-Waiting.b (map plain_packet c.args.packets.now.items) (map plain_packet c.push.new.self.items) (ap (λ (v : LiveValue). v.node.mode) (sym c.self.view_is) ∙ c.in-Waiting.is) (push_sent c.args.packets.now c.push.new.self _ (packet.Want c.in-Waiting.b) (n.Want c.in-Waiting.b) refl h)) c.push.ensures.ok

pub returns-in_ok-push-in-Stopped : goal.returns-in_ok-push-in-Stopped
unfolding definitions
returns-in_ok-push-in-Stopped c =
    on_ok_weaker c.resend_own.result (λ h. stopped_sends c.args.self.now.node c.in-Stopped.b (map plain_packet c.args.packets.now.items) (map plain_packet c.push-in-Stopped.new.self.items) (map plain_packet c.resend_own.new.packets.items) (ap (λ (v : LiveValue). v.node.mode) (sym c.self.view_is) ∙ c.in-Stopped.is) (push_sent c.args.packets.now c.push-in-Stopped.new.self _ (packet.Stop c.in-Stopped.b) (n.Stop c.in-Stopped.b) refl c.in_ok-push-in-Stopped.ensures.ok) h) c.resend_own.ensures
