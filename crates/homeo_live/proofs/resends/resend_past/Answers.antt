use Rattle.homeo_live.specs.Key.{definitions}
use Rattle.std.proofs.Common.{◌++◌, ◌∷◌, [], map, refl, sym, ap, ◌∙◌, append_assoc}
use Rattle.std.specs.Prelude.{option_map}
use Rattle.std.proofs.lemmas.Result.{on_ok_weaker}
use Rattle.homeo_nodes.specs.Nodes as n
use Rattle.homeo_carry.specs.CarryView.{plain_said}
use Rattle.homeo_live.specs.LiveView.{plain_packet, plain_past}
use Rattle.homeo_live.specs.declared.packet.Packet.TheVariants as packet
use Rattle.homeo_live.proofs.Resending.{push_sent}
use Rattle.homeo_live.proofs.resends.resend_past.Goals as goal

pub returns-in_ok-push-in-Some : goal.returns-in_ok-push-in-Some
unfolding definitions
returns-in_ok-push-in-Some c =
    let b = c.in-Some.past.breach in
    let before = map plain_packet c.args.packets.now.items in
    let sent = push_sent c.args.packets.now c.push.new.self _ (packet.Stop b) (n.Stop b) refl c.in_ok-push-in-Some.ensures.ok in
    on_ok_weaker c.resend_states.result (λ h. h ∙ ap (λ l. l ++ n.of_states b.round 0 (map plain_said c.as_slice.result.now)) sent ∙ append_assoc before (n.Stop b ∷ []) (n.of_states b.round 0 (map plain_said c.as_slice.result.now)) ∙ ap (λ xs. before ++ n.Stop b ∷ n.of_states b.round 0 (map plain_said xs)) c.as_slice.ensures.value ∙ ap (λ o. before ++ n.of_past (option_map plain_past o)) (sym c.in-Some.is)) c.resend_states.ensures
