-- The segment keeps its entries, and the room has what the call's local step makes of the site.
use Rattle.std.proofs.Common.{List, [], length, replicate, ℤ, refl, ap, ◌∙◌}
use Rattle.homeo_syntax.specs.SourceView.{plain_workload}
use Rattle.homeo_meaning.specs.Serial.{values_of}
use Rattle.homeo_site.specs.SiteState.{step_prints, step_deltas}
use Rattle.homeo_site.specs.SiteView.{SiteValue, with_deltas}
use Rattle.homeo_site.proofs.SiteAttempts.{ready_here, call_here}
use Rattle.homeo_site.proofs.SiteViews.{still_site, spare_changed, room_is, copies_are}
use Rattle.homeo_site.proofs.site.Site.take_room.Goals as goal

pub step-requires-clause-call : goal.step-requires-clause-call
step-requires-clause-call c =
    call_here c.self.inside.own c.self.inside.deltas c.self.inside.segment c.args.self.now c.self.view_is _ refl c.args.call c.requires

pub step-requires-clause-ready : goal.step-requires-clause-ready
step-requires-clause-ready c =
    ready_here c.self.inside.own c.self.inside.deltas c.self.inside.segment c.args.self.now c.self.view_is c.in_ok-copy.copy.items
    (c.in_ok-copy.ensures.copy ∙ ap (λ (v : SiteValue). v.state.deltas) c.self.view_is) c.args.call c.self.invariant

pub invariant_of-self-in_err-reserve : goal.invariant_of-self-in_err-reserve
invariant_of-self-in_err-reserve c =
    still_site c.self.inside.own c.self.inside.deltas _ c.self.inside.segment _ c.self.invariant c.copy.ensures.same
    (ap (λ l. l.items) c.in_err-reserve.ensures.err)

pub returns-in_err-reserve-clause-state : goal.returns-in_err-reserve-clause-state
returns-in_err-reserve-clause-state c =
    spare_changed c.self.inside.own c.self.inside.deltas _ c.self.inside.segment _ c.args.self.now c.copy.ensures.same
    (ap (λ l. l.items) c.in_err-reserve.ensures.err) c.self.view_is

pub invariant_of-self-2 : goal.invariant_of-self-2
invariant_of-self-2 c =
    still_site c.self.inside.own c.self.inside.deltas _ c.self.inside.segment _ c.self.invariant c.copy.ensures.same
    (ap (λ l. l.items) c.in_ok-reserve.ensures.ok)

pub returns-clause-state : goal.returns-clause-state
returns-clause-state c =
    spare_changed c.self.inside.own c.self.inside.deltas _ c.self.inside.segment _ c.args.self.now c.copy.ensures.same
    (ap (λ l. l.items) c.in_ok-reserve.ensures.ok) c.self.view_is

pub returns-clause-room : goal.returns-clause-room
returns-clause-room c =
    let own = c.self.inside.own in
    room_is c.self.inside.own c.self.inside.deltas c.self.inside.segment c.args.self.now c.args.call _ c.self.view_is refl
    (c.in_ok-deltas.ensures.deltas ∙ ap (λ l. step_deltas (plain_workload own.work) (with_deltas own l) c.args.call) c.in_ok-copy.ensures.copy)
    (c.in_ok-deltas.ensures.prints ∙ ap (λ l. step_prints (plain_workload own.work) (with_deltas own l) c.args.call) c.in_ok-copy.ensures.copy)
    (λ n none. c.in_ok-deltas.ensures.written n none ∙ ap (λ l. values_of l n) c.in_ok-copy.ensures.copy)

pub returns-clause-copies : goal.returns-clause-copies
returns-clause-copies c =
    let own = c.self.inside.own in
    copies_are c.self.inside.own c.self.inside.deltas c.self.inside.segment c.args.self.now c.args.call _ c.args.copies _ c.self.view_is
    (c.in_ok-deltas.ensures.prints ∙ ap (λ l. step_prints (plain_workload own.work) (with_deltas own l) c.args.call) c.in_ok-copy.ensures.copy)
    (c.in_ok-lists.ensures ∙ ap (λ (l : List ℤ). replicate c.args.copies (record { items = []; spare = length l })) c.as_slice.ensures)
