use Rattle.std.proofs.Common.{rules, ◌≡◌, ◌<◌, [], map, refl, sym, ap, subst, ◌∙◌}
use Rattle.std.specs.Prelude.{Contains, IfSome}
use Rattle.std.proofs.lemmas.Result.{IfOk-at_ok}
use Rattle.std.proofs.lemmas.List.Elements.{Contains-push}
use Rattle.homeo_syntax.specs.SourceView.{plain_workload}
use Rattle.homeo_plan.specs.Planned.{sites_of}
use Rattle.homeo_nodes.specs.Key.{definitions as node_definitions}
use Rattle.homeo_nodes.specs.Nodes as n
use Rattle.homeo_nodes.specs.Nodes.{Came, received}
use Rattle.homeo_nodes.specs.Small.{grown}
use Rattle.homeo_live.specs.LiveView.{LiveValue, plain_packet, plain_step, IsReaction}
use Rattle.homeo_desk.specs.Outputs.{Gives}
use Rattle.homeo_desk.specs.inner.Delivering.{Delivers}
use Rattle.homeo_desk.specs.inner.Keeping.{FitsQueue, closed_by, value_of}
use Rattle.homeo_desk.proofs.Giving.{gives_nothing}
use Rattle.homeo_desk.proofs.Keeping.{none_of}
use Rattle.homeo_desk.proofs.Moving.{stays, came_at}
use Rattle.homeo_desk.proofs.Reacting.{Closes, receives}
use Rattle.homeo_desk.proofs.Stepping.{first_told, still_kept, delivered}
use Rattle.homeo_desk.proofs.desk.Desk.deliver.Goals as goal

pub tell-requires : goal.tell-requires
unfolding node_definitions
tell-requires c =
    let i = c.self.inside in
    let x = i.node.node in
    let w = plain_workload i.node.work in
    let packet : n.Packet = plain_packet c.args.packet in
    let sent = c.receive.new.packets.items in
    let step = c.in-Some.step in
    let new = c.receive.new.self.node in
    let came : IsReaction (received w packet (grown x)) new [] sent step =
    came_at (λ v y. received v packet (grown y)) i.node.work i.node.work x x c.in_ok-step.field-0 step new c.new-sent.result.items sent refl refl (search rules) c.in-Some.is c.in_ok-step.ensures.reaction in
    let below : x.number < sites_of w = subst (λ k. k < sites_of w) c.number.ensures.number c.number.ensures.below in
    let fits : FitsQueue packet x.number x.queue =
    subst (λ k. FitsQueue packet k x.queue) c.number.ensures.number (subst (λ q. FitsQueue packet c.number.result q) c.queue.ensures (c.fits_queue.ensures c.if-not-fits_queue.false)) in
    let closes : Closes w (grown x) (received w packet (grown x)) = receives w (grown x) below c.number.ensures.states c.self.invariant.first packet fits in
    let told_is = closes.told_is ∙ sym (ap closed_by came.came_to) in
    first_told i.node.work x new i.callers.places i.callers.queue.items i.callers.answered (Came packet) sent step (closed_by (plain_step step)) came closes.keeps told_is c.self.invariant

pub invariant_of-self-in_err-tell : goal.invariant_of-self-in_err-tell
unfolding node_definitions
invariant_of-self-in_err-tell c =
    let i = c.self.inside in
    let x = i.node.node in
    let w = plain_workload i.node.work in
    let packet : n.Packet = plain_packet c.args.packet in
    let sent = c.receive.new.packets.items in
    let step = c.in-Some.step in
    let new = c.receive.new.self.node in
    let came : IsReaction (received w packet (grown x)) new [] sent step =
    came_at (λ v y. received v packet (grown y)) i.node.work i.node.work x x c.in_ok-step.field-0 step new c.new-sent.result.items sent refl refl (search rules) c.in-Some.is c.in_ok-step.ensures.reaction in
    let below : x.number < sites_of w = subst (λ k. k < sites_of w) c.number.ensures.number c.number.ensures.below in
    let fits : FitsQueue packet x.number x.queue =
    subst (λ k. FitsQueue packet k x.queue) c.number.ensures.number (subst (λ q. FitsQueue packet c.number.result q) c.queue.ensures (c.fits_queue.ensures c.if-not-fits_queue.false)) in
    let closes : Closes w (grown x) (received w packet (grown x)) = receives w (grown x) below c.number.ensures.states c.self.invariant.first packet fits in
    let told_is = closes.told_is ∙ sym (ap closed_by came.came_to) in
    still_kept i.node.work x new i.callers.places i.callers.queue.items i.callers.answered (Came packet) sent step (closed_by (plain_step step)) came closes.keeps told_is c.self.invariant c.receive.new.self.work c.tell.new.self.places c.tell.new.self.queue.items c.tell.new.self.answered c.receive.ensures.work c.number.ensures.calls c.tell.ensures.queue c.tell.ensures.last.keeps c.tell.ensures.round

pub invariant_of-self-in_err-stop : goal.invariant_of-self-in_err-stop
unfolding node_definitions
invariant_of-self-in_err-stop c =
    let i = c.self.inside in
    let x = i.node.node in
    let w = plain_workload i.node.work in
    let packet : n.Packet = plain_packet c.args.packet in
    let sent = c.receive.new.packets.items in
    let step = c.in-Some.step in
    let new = c.receive.new.self.node in
    let came : IsReaction (received w packet (grown x)) new [] sent step =
    came_at (λ v y. received v packet (grown y)) i.node.work i.node.work x x c.in_ok-step.field-0 step new c.new-sent.result.items sent refl refl (search rules) c.in-Some.is c.in_ok-step.ensures.reaction in
    let below : x.number < sites_of w = subst (λ k. k < sites_of w) c.number.ensures.number c.number.ensures.below in
    let fits : FitsQueue packet x.number x.queue =
    subst (λ k. FitsQueue packet k x.queue) c.number.ensures.number (subst (λ q. FitsQueue packet c.number.result q) c.queue.ensures (c.fits_queue.ensures c.if-not-fits_queue.false)) in
    let closes : Closes w (grown x) (received w packet (grown x)) = receives w (grown x) below c.number.ensures.states c.self.invariant.first packet fits in
    let told_is = closes.told_is ∙ sym (ap closed_by came.came_to) in
    still_kept i.node.work x new i.callers.places i.callers.queue.items i.callers.answered (Came packet) sent step (closed_by (plain_step step)) came closes.keeps told_is c.self.invariant c.receive.new.self.work c.tell.new.self.places c.tell.new.self.queue.items c.tell.new.self.answered c.receive.ensures.work c.number.ensures.calls c.tell.ensures.queue c.tell.ensures.last.keeps c.tell.ensures.round

pub invariant_of-self-2 : goal.invariant_of-self-2
unfolding node_definitions
invariant_of-self-2 c =
    let i = c.self.inside in
    let x = i.node.node in
    let w = plain_workload i.node.work in
    let packet : n.Packet = plain_packet c.args.packet in
    let sent = c.receive.new.packets.items in
    let step = c.in-Some.step in
    let new = c.receive.new.self.node in
    let came : IsReaction (received w packet (grown x)) new [] sent step =
    came_at (λ v y. received v packet (grown y)) i.node.work i.node.work x x c.in_ok-step.field-0 step new c.new-sent.result.items sent refl refl (search rules) c.in-Some.is c.in_ok-step.ensures.reaction in
    let below : x.number < sites_of w = subst (λ k. k < sites_of w) c.number.ensures.number c.number.ensures.below in
    let fits : FitsQueue packet x.number x.queue =
    subst (λ k. FitsQueue packet k x.queue) c.number.ensures.number (subst (λ q. FitsQueue packet c.number.result q) c.queue.ensures (c.fits_queue.ensures c.if-not-fits_queue.false)) in
    let closes : Closes w (grown x) (received w packet (grown x)) = receives w (grown x) below c.number.ensures.states c.self.invariant.first packet fits in
    let told_is = closes.told_is ∙ sym (ap closed_by came.came_to) in
    still_kept i.node.work x new i.callers.places i.callers.queue.items i.callers.answered (Came packet) sent step (closed_by (plain_step step)) came closes.keeps told_is c.self.invariant c.receive.new.self.work c.tell.new.self.places c.tell.new.self.queue.items c.tell.new.self.answered c.receive.ensures.work c.number.ensures.calls c.tell.ensures.queue c.tell.ensures.last.keeps c.tell.ensures.round

pub returns-then-not-fits_queue-clause-delivers : goal.returns-then-not-fits_queue-clause-delivers
returns-then-not-fits_queue-clause-delivers c = record { move = stays _ _ _ _ _ (search rules) (gives_nothing [] _); chosen = tt }

pub returns-in_default-clause-delivers : goal.returns-in_default-clause-delivers
returns-in_default-clause-delivers c =
    let i = c.self.inside in
    let back : c.receive.new.self ≡ i.node = c.in_ok-step.ensures.left (none_of c.in_ok-step.field-0 c.in_default.not-Some) in
    record {
      move = stays _ c.args.self.now _ _ _ (ap (λ (v : LiveValue). value_of v.work v.node i.callers.places i.callers.queue.items i.callers.answered) back ∙ c.self.view_is) (gives_nothing [] _);
      chosen = tt;
    }

pub returns-clause-delivers : goal.returns-clause-delivers
unfolding node_definitions
returns-clause-delivers c =
    let i = c.self.inside in
    let x = i.node.node in
    let w = plain_workload i.node.work in
    let packet : n.Packet = plain_packet c.args.packet in
    let sent = c.receive.new.packets.items in
    let step = c.in-Some.step in
    let new = c.receive.new.self.node in
    let came : IsReaction (received w packet (grown x)) new [] sent step =
    came_at (λ v y. received v packet (grown y)) i.node.work i.node.work x x c.in_ok-step.field-0 step new c.new-sent.result.items sent refl refl (search rules) c.in-Some.is c.in_ok-step.ensures.reaction in
    let below : x.number < sites_of w = subst (λ k. k < sites_of w) c.number.ensures.number c.number.ensures.below in
    let fits : FitsQueue packet x.number x.queue =
    subst (λ k. FitsQueue packet k x.queue) c.number.ensures.number (subst (λ q. FitsQueue packet c.number.result q) c.queue.ensures (c.fits_queue.ensures c.if-not-fits_queue.false)) in
    let closes : Closes w (grown x) (received w packet (grown x)) = receives w (grown x) below c.number.ensures.states c.self.invariant.first packet fits in
    let told_is = closes.told_is ∙ sym (ap closed_by came.came_to) in
    subst (λ d. Delivers packet c.taken_by.result d (value_of c.receive.new.self.work c.receive.new.self.node c.tell.new.self.places c.tell.new.self.queue.items c.tell.new.self.answered) c.args.outputs.now.items c.tell.new.outputs.items) c.self.view_is
    (delivered i.node.work x new i.callers.places i.callers.queue.items i.callers.answered (Came packet) sent step (closed_by (plain_step step)) came closes.keeps told_is c.self.invariant c.receive.new.self.work c.tell.new.self.places c.tell.new.self.queue.items c.tell.new.self.answered c.receive.ensures.work packet c.taken_by.result _ _ _ (Contains-push [] packet)
    (c.taken_by.ensures.sent (map plain_packet sent) (IfOk-at_ok (λ o. IfSome o (λ b. Contains (map plain_packet sent) (n.Stop b))) c.in_ok-stop.was c.let_out_all-chosen.ensures.chosen))
    (IfOk-at_ok (λ _. Gives (map plain_packet sent) [] c.args.outputs.now.items c.let_out_all-chosen.new.outputs.items) c.in_ok-stop.was c.let_out_all-chosen.ensures.gives)
    c.in_ok-tell.ensures.tells)
