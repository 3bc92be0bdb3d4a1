use Rattle.std.proofs.Common.{rules, ◌≡◌, [], map, take, refl, subst, sym}
use Rattle.homeo_nodes.specs.Nodes.{resent}
use Rattle.homeo_nodes.specs.Small.{grown}
use Rattle.homeo_live.specs.LiveView.{plain_packet}
use Rattle.homeo_desk.specs.Outputs.{AreIn}
use Rattle.homeo_desk.proofs.Giving.{gives_nothing}
use Rattle.homeo_desk.proofs.Moving.{stays}
use Rattle.homeo_desk.proofs.Resending.{by_tick, first_in}
use Rattle.homeo_desk.proofs.desk.Desk.tick.Goals as goal

pub returns-then-count-eq0 : goal.returns-then-count-eq0
returns-then-count-eq0 c = record { moves = stays _ _ _ _ _ refl (gives_nothing [] _) }

pub returns : goal.returns
returns c =
    let count = c.sent_by-count.result in
    let sent = c.resend.new.packets.items in
    let first : c.from_vec.result.items ≡ take count sent = search rules in
    let again : map plain_packet sent ≡ resent (grown c.args.self.now.node) = search rules in
    let within : AreIn (map plain_packet c.from_vec.result.items) (resent (grown c.args.self.now.node)) =
    subst (λ xs. AreIn (map plain_packet xs) (resent (grown c.args.self.now.node))) (sym first) (first_in count sent _ again) in
    record { moves = by_tick [] (map plain_packet c.from_vec.result.items) c.args.self.now _ _ within c.in_ok-let_out_all.ensures.gives }
