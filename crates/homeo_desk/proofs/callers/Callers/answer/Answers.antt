use Rattle.std.proofs.Common.{◌∷◌, [], ◌++◌, ◌∙◌, sym, subst}
use Rattle.std.specs.Prelude.{◌≤◌}
use Rattle.std.proofs.lemmas.Result.{on_ok_weaker}
use Rattle.homeo_history.specs.Answers.{called}
use Rattle.homeo_history.specs.Key.{definitions}
use Rattle.homeo_history.specs.HistoryView.{plain_answer}
use Rattle.homeo_desk.specs.declared.output.Request.{Request}
use Rattle.homeo_desk.specs.inner.Keeping.{Tells, put}
use Rattle.homeo_desk.proofs.Giving.{tells_before}
use Rattle.homeo_desk.specs.declared.places.Places.{Places}
use Rattle.homeo_desk.proofs.Keeping.{all_here}
use Rattle.homeo_desk.proofs.Lists.{one_left}
use Rattle.homeo_desk.proofs.Placing.{put_within}
use Rattle.homeo_desk.proofs.callers.Callers.answer.Goals as goal

pub answer_request-requires-clause-call : goal.answer_request-requires-clause-call
answer_request-requires-clause-call c =
    one_left (λ (r : Request). r.call) (called (plain_answer c.args.made)) c.in-Some.request c.args.self.now.queue.items c.pop_front.new.self.items c.in-Some.ensures.items c.requires

pub returns-clause-tells : goal.returns-clause-tells
returns-clause-tells c =
    let rest = c.pop_front.new.self.items in
    let one = c.in-Some.request ∷ [] in
    let answers = plain_answer c.args.made ∷ [] in
    let last = c.args.self.now.answered in
    let kept = put c.next-path.result c.args.made.round c.args.self.now.places in
    let was = c.args.self.now.places in
    let places = c.answer_request.ensures.places ∙ c.next-path.ensures.put in
    on_ok_weaker c.answer_request.result
    (λ told. subst (λ p. Tells answers was p c.args.self.now.queue.items c.answer_request.new.self.queue.items last c.answer_request.new.self.answered c.args.outputs.now.items c.answer_request.new.outputs.items) (sym places)
    (subst (λ q. Tells answers was kept q c.answer_request.new.self.queue.items last c.answer_request.new.self.answered c.args.outputs.now.items c.answer_request.new.outputs.items) (sym c.in-Some.ensures.items)
    (subst (λ q. Tells answers was kept (one ++ rest) q last c.answer_request.new.self.answered c.args.outputs.now.items c.answer_request.new.outputs.items) (sym c.answer_request.ensures.queue)
    (tells_before answers was kept one rest last c.answer_request.new.self.answered c.args.outputs.now.items c.answer_request.new.outputs.items told))))
    (c.answer_request.ensures.tells was c.next-path.ensures.placed)

pub returns-clause-round : goal.returns-clause-round
unfolding definitions
returns-clause-round c = λ last le all.
    let round = c.args.made.round in
    subst (λ (p : Places). p.round ≤ last) (sym (c.answer_request.ensures.places ∙ c.next-path.ensures.put))
    (put_within c.next-path.result round last c.args.self.now.places le (all_here (λ b. b.round ≤ last) [] (plain_answer c.args.made) [] all))
