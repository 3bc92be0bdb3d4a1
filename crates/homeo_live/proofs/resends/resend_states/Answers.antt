use Rattle.homeo_live.specs.Key.{definitions}
use Rattle.std.proofs.Common.{map, ap}
use Rattle.homeo_nodes.specs.Nodes as n
use Rattle.homeo_live.specs.LiveView.{plain_packet}
use Rattle.homeo_live.specs.declared.packet.Packet.TheVariants as packet
use Rattle.homeo_live.proofs.LiveLists.{sent_next}
use Rattle.homeo_live.proofs.resends.resend_states.Goals as goal

pub loop-site-preserved : goal.loop-site-preserved
unfolding definitions
loop-site-preserved c =
    sent_next (map plain_packet c.args.packets.now.items) c.args.round c.loop-site.site c.args.states.now c.index-states-site.result c.loop-site.packets.items c.push.new.self.items (packet.State c.args.round c.loop-site.site c.in_ok-copy.field-0) c.loop-site-test.true c.index-states-site.is (ap (λ l. l.items) c.in_ok-push.ensures.ok) (ap (n.State c.args.round c.loop-site.site) c.in_ok-copy.ensures) c.loop-site.invariant
