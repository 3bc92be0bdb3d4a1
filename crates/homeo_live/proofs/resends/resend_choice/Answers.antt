use Rattle.homeo_live.specs.Key.{definitions}
use Rattle.std.proofs.Common.{◌++◌, map, refl, sym, ap, ◌∙◌}
use Rattle.std.proofs.lemmas.Result.{on_ok_weaker}
use Rattle.homeo_nodes.specs.Nodes as n
use Rattle.homeo_live.specs.LiveView.{plain_packet}
use Rattle.homeo_live.specs.declared.packet.Packet.TheVariants as packet
use Rattle.homeo_live.proofs.Resending.{push_sent}
use Rattle.homeo_live.proofs.resends.resend_choice.Goals as goal

pub returns-in-Some : goal.returns-in-Some
unfolding definitions
returns-in-Some c =
    on_ok_weaker c.push.result (λ h. push_sent c.args.packets.now c.push.new.self _ (packet.Stop c.in-Some.b) (n.Stop c.in-Some.b) refl h ∙ ap (λ o. map plain_packet c.args.packets.now.items ++ n.of_choice o) (sym c.in-Some.is)) c.push.ensures.ok
