use Rattle.homeo_site.specs.Key.{definitions as site_definitions}
use Rattle.homeo_live.specs.Key.{definitions}
use Rattle.std.proofs.Common.{◌≡◌, ◌<◌, ◌∷◌, length, drop, All, refl, sym, ap, subst, ◌∙◌}
use Rattle.std.proofs.lemmas.List.Elements.{All-rest}
use Rattle.homeo_syntax.specs.SourceView.{plain_workload}
use Rattle.homeo_history.specs.Legal.{IsCallAt}
use Rattle.homeo_site.specs.BareView.{IsRan, after_ran}
use Rattle.homeo_site.specs.SiteState.{SiteState}
use Rattle.homeo_live.specs.LiveView.{LiveValue}
use Rattle.homeo_live.specs.declared.packet.Packet.TheVariants as packet
use Rattle.homeo_live.proofs.LiveViews.{first_of, first_at, live_site, after_empty, after_number, kept_call, wanted_call}
use Rattle.homeo_live.proofs.live.LiveNode.attempt.Goals as goal

pub invariant_of-self-in-Kept : goal.invariant_of-self-in-Kept
unfolding site_definitions
invariant_of-self-in-Kept c =
    let i = c.self.inside in
    let x = i.site in
    let call = c.index-call.result.now in
    let some = subst (λ (v : LiveValue). 0 < length v.node.queue) (sym c.self.view_is) c.requires in
    let first = first_of i.queue.items call some c.index-call.ensures in
    let left = c.in_ok-prints.ensures.state ∙ ap (after_ran (plain_workload x.work) x.state call) c.in-Kept.is in
    let rest = All-rest (IsCallAt (plain_workload i.planner) x.state.number) call (drop 1 i.queue.items) i.queue.items first c.self.invariant.waiting in
    live_site i.planner i.bounds.items x c.run.new.self i.mode i.mode i.states.items i.past i.queue.items c.remove.new.self.items c.self.invariant c.in_ok-prints.ensures.work
    (after_empty (plain_workload x.work) x.state c.run.new.self.state call left) c.self.invariant.mode_of
    (subst (λ k. All (IsCallAt (plain_workload i.planner) k) c.remove.new.self.items) (sym (after_number (plain_workload x.work) x.state c.run.new.self.state call left)) (subst (All (IsCallAt (plain_workload i.planner) x.state.number)) (sym c.remove.ensures.items) rest))

pub invariant_of-self-in-Breaks : goal.invariant_of-self-in-Breaks
unfolding site_definitions
invariant_of-self-in-Breaks c =
    let i = c.self.inside in
    let x = i.site in
    let call = c.index-call.result.now in
    let some = subst (λ (v : LiveValue). 0 < length v.node.queue) (sym c.self.view_is) c.requires in
    let first = first_of i.queue.items call some c.index-call.ensures in
    let stays : c.run.new.self.state ≡ x.state = c.in_ok-prints.ensures.state ∙ ap (after_ran (plain_workload x.work) x.state call) c.in-Breaks.is in
    let number = ap (λ (y : SiteState). y.number) stays in
    live_site i.planner i.bounds.items x c.run.new.self i.mode _ i.states.items i.past i.queue.items i.queue.items c.self.invariant c.in_ok-prints.ensures.work
    (ap (λ (y : SiteState). y.segment) stays ∙ c.self.invariant.empty)
    (subst (λ k. IsCallAt (plain_workload i.planner) k call) (sym (c.number.ensures.number ∙ number)) (first_at (IsCallAt (plain_workload i.planner) x.state.number) call (drop 1 i.queue.items) i.queue.items first c.self.invariant.waiting))
    (subst (λ k. All (IsCallAt (plain_workload i.planner) k) i.queue.items) (sym number) c.self.invariant.waiting)

pub returns-in-Kept-clause-reaction : goal.returns-in-Kept-clause-reaction
unfolding site_definitions definitions
returns-in-Kept-clause-reaction c =
    let i = c.self.inside in
    let x = i.site in
    let call = c.index-call.result.now in
    let some = subst (λ (v : LiveValue). 0 < length v.node.queue) (sym c.self.view_is) c.requires in
    let first = first_of i.queue.items call some c.index-call.ensures in
    let ran = subst (IsRan (plain_workload x.work) x.state call) c.in-Kept.is c.in_ok-prints.ensures.ran in
    kept_call i.planner x.work x.state i.mode i.decided i.states.items i.past i.queue.items c.args.self.now c.self.view_is c.self.invariant.work_is call c.remove.new.self.items (first ∙ ap (λ l. call ∷ l) (sym c.remove.ensures.items)) c.args.packets.now.items c.reserve.new.self.items _ c.run.new.self.state c.in-Kept.prints.items ran.0 ran.1
    (c.in_ok-prints.ensures.state ∙ ap (after_ran (plain_workload x.work) x.state call) c.in-Kept.is) refl (ap (λ l. l.items) c.in_ok-reserve.ensures.ok)

pub returns-in-Breaks-clause-reaction : goal.returns-in-Breaks-clause-reaction
unfolding site_definitions definitions
returns-in-Breaks-clause-reaction c =
    let i = c.self.inside in
    let x = i.site in
    let call = c.index-call.result.now in
    let some = subst (λ (v : LiveValue). 0 < length v.node.queue) (sym c.self.view_is) c.requires in
    let first = first_of i.queue.items call some c.index-call.ensures in
    let ran = subst (IsRan (plain_workload x.work) x.state call) c.in-Breaks.is c.in_ok-prints.ensures.ran in
    let stays : c.run.new.self.state ≡ x.state = c.in_ok-prints.ensures.state ∙ ap (after_ran (plain_workload x.work) x.state call) c.in-Breaks.is in
    let round = c.round.ensures ∙ ap (λ (y : SiteState). y.round) stays in
    let number = c.number.ensures.number ∙ ap (λ (y : SiteState). y.number) stays in
    wanted_call i.planner x.work x.state i.mode i.decided i.states.items i.past i.queue.items c.args.self.now c.self.view_is c.self.invariant.work_is call (drop 1 i.queue.items) first c.args.packets.now.items c.push_packet.new.packets.items _ c.run.new.self.state c.in-Breaks.broken _ c.reserve.new.self.items (packet.Want _) ran stays
    (λ j. record { round = round j; site = number j; call = call; broken = c.in-Breaks.broken }) refl (ap (λ l. l.items) c.in_ok-reserve.ensures.ok) c.push_packet.ensures refl
