use Rattle.std.proofs.Common.{◌≡◌, [], None, refl, sym, ap, subst, ◌∙◌, slice_index_or}
use Rattle.homeo_desk.specs.declared.output.Output.TheVariants as o
use Rattle.homeo_desk.specs.declared.output.Why.TheVariants as why
use Rattle.homeo_desk.specs.DeskView.{DeskValue, plain_reply}
use Rattle.homeo_desk.specs.Moves.{IsMove}
use Rattle.homeo_desk.specs.Requests.{Standing, Answered, Waits, Late, Full, New, after_last, standing, taken_on, Replies}
use Rattle.homeo_desk.specs.inner.Known.{IsKnown}
use Rattle.homeo_desk.proofs.Giving.{in_nothing, gives_nothing, gives_put}
use Rattle.homeo_desk.proofs.Moving.{stays}
use Rattle.homeo_desk.proofs.Requests.{new_has_room}
use Rattle.homeo_desk.proofs.desk.Desk.ask.Goals as goal

pub returns-in_ok-push-in-Answered : goal.returns-in_ok-push-in-Answered
returns-in_ok-push-in-Answered c =
    let old = c.args.self.now in
    let r = c.args.request in
    let i = c.self.inside in
    let known : Standing = after_last i.callers.queue.items r (slice_index_or i.callers.answered r.call.client None) in
    let is : standing old r ≡ Answered (plain_reply c.in-Answered.answer.now) = ap (λ (d : DeskValue). standing d r) (sym c.self.view_is) ∙ subst (λ k. IsKnown k known) c.in-Answered.is c.known.ensures in
    let after = ap (λ l. l.items) c.in_ok-push-in-Answered.ensures.ok in
    let again = c.in_ok-again-in-Answered in
    record {
      work = refl;
      replies = subst (λ x. Replies x r old old c.args.outputs.now.items c.push.new.self.items) (sym is)
          (refl, record { answer = again.again; same = again.ensures; after_is = after });
      moves = subst (λ x. IsMove (taken_on x r) [] old old c.args.outputs.now.items c.push.new.self.items) (sym is)
          (stays _ _ _ _ _ refl (gives_put _ _ _ _ (o.Again r.caller again.again) after (in_nothing []) refl));
    }

pub returns-in-Waits-clause-moves : goal.returns-in-Waits-clause-moves
returns-in-Waits-clause-moves c =
    let old = c.args.self.now in
    let r = c.args.request in
    let i = c.self.inside in
    let known : Standing = after_last i.callers.queue.items r (slice_index_or i.callers.answered r.call.client None) in
    let is : standing old r ≡ Waits = ap (λ (d : DeskValue). standing d r) (sym c.self.view_is) ∙ subst (λ k. IsKnown k known) c.in-Waits.is c.known.ensures in
    subst (λ x. IsMove (taken_on x r) [] old old c.args.outputs.now.items c.args.outputs.now.items) (sym is) (stays _ _ _ _ _ refl (gives_nothing [] _))

pub returns-in_ok-refuse-in-Late-clause-moves : goal.returns-in_ok-refuse-in-Late-clause-moves
returns-in_ok-refuse-in-Late-clause-moves c =
    let old = c.args.self.now in
    let r = c.args.request in
    let i = c.self.inside in
    let known : Standing = after_last i.callers.queue.items r (slice_index_or i.callers.answered r.call.client None) in
    let is : standing old r ≡ Late = ap (λ (d : DeskValue). standing d r) (sym c.self.view_is) ∙ subst (λ k. IsKnown k known) c.in-Late.is c.known.ensures in
    subst (λ x. IsMove (taken_on x r) [] old old c.args.outputs.now.items c.refuse.new.outputs.items) (sym is)
    (stays _ _ _ _ _ refl (gives_put _ _ _ _ (o.Refusal r.caller r.number why.Late) c.in_ok-refuse-in-Late.ensures (in_nothing []) refl))

pub returns-in_ok-refuse-in-Full-clause-moves : goal.returns-in_ok-refuse-in-Full-clause-moves
returns-in_ok-refuse-in-Full-clause-moves c =
    let old = c.args.self.now in
    let r = c.args.request in
    let i = c.self.inside in
    let known : Standing = after_last i.callers.queue.items r (slice_index_or i.callers.answered r.call.client None) in
    let is : standing old r ≡ Full = ap (λ (d : DeskValue). standing d r) (sym c.self.view_is) ∙ subst (λ k. IsKnown k known) c.in-Full.is c.known.ensures in
    subst (λ x. IsMove (taken_on x r) [] old old c.args.outputs.now.items c.refuse-in-Full.new.outputs.items) (sym is)
    (stays _ _ _ _ _ refl (gives_put _ _ _ _ (o.Refusal r.caller r.number why.Full) c.in_ok-refuse-in-Full.ensures (in_nothing []) refl))

pub take_on-requires-clause-room : goal.take_on-requires-clause-room
take_on-requires-clause-room c =
    let old = c.args.self.now in
    let r = c.args.request in
    let i = c.self.inside in
    let known : Standing = after_last i.callers.queue.items r (slice_index_or i.callers.answered r.call.client None) in
    let is : standing old r ≡ New = ap (λ (d : DeskValue). standing d r) (sym c.self.view_is) ∙ subst (λ k. IsKnown k known) c.in-New.is c.known.ensures in
    new_has_room old r is
