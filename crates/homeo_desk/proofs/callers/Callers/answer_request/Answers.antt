use Rattle.std.proofs.Common.{◌∷◌, [], refl, sym, ap, subst, ◌∙◌}
use Rattle.std.specs.Prelude.{Some, slice_set}
use Rattle.homeo_history.specs.Answers.{called}
use Rattle.homeo_history.specs.HistoryView.{plain_answer}
use Rattle.homeo_history.specs.Legal.{IsCallAt}
use Rattle.homeo_history.specs.Key.{definitions}
use Rattle.homeo_desk.specs.declared.output.Answer.{Answer}
use Rattle.homeo_desk.specs.declared.output.Output.TheVariants as o
use Rattle.homeo_desk.specs.DeskView.{Reply, plain_reply}
use Rattle.homeo_desk.specs.Outputs.{Given, Says, none, told}
use Rattle.homeo_desk.specs.inner.Keeping.{AreLast}
use Rattle.homeo_desk.proofs.Giving.{in_nothing, gives_put}
use Rattle.homeo_desk.proofs.Keeping.{all_here, last_set}
use Rattle.homeo_desk.proofs.callers.Callers.answer_request.Goals as goal

pub returns-clause-tells : goal.returns-clause-tells
unfolding definitions
returns-clause-tells c =
    let made = c.args.made in
    let answer : Answer = record { number = c.args.request.number; call = c.args.request.call; prints = made.prints; round = made.round; path = c.args.path } in
    let given : Given = record { caller = c.args.request.caller; reply = plain_reply answer } in
    let says : Says given (plain_answer made) = record { call = c.requires.call; round = refl; path = c.requires.path; prints = refl } in
    λ was placed. record {
      given = given ∷ [];
      gives = gives_put [] (given ∷ []) _ _ (o.Answer c.args.request.caller answer) (ap (λ l. l.items) c.in_ok-push.ensures.ok) (in_nothing []) refl;
      told = told given (plain_answer made) [] [] says none;
      queue = refl;
      answered = c.keep.ensures ∙ ap (λ (r : Reply). slice_set c.args.self.now.answered r.call.client (Some r)) c.in_ok-copy.ensures;
      placed = (placed, refl);
    }

pub returns-in_err-push-clause-last : goal.returns-in_err-push-clause-last
returns-in_err-push-clause-last c = record {
  keeps = λ w site are all.
      let at = all_here (λ b. IsCallAt w site (called b)) [] (plain_answer c.args.made) [] all in
      subst (AreLast w site) (sym c.keep.ensures)
      (last_set w site c.args.self.now.answered (plain_reply c.in_ok-copy.field-0) are
      (subst (IsCallAt w site) (sym (ap (λ (r : Reply). r.call) c.in_ok-copy.ensures ∙ c.requires.call)) at));
}

pub returns-clause-last : goal.returns-clause-last
returns-clause-last c = record {
  keeps = λ w site are all.
      let at = all_here (λ b. IsCallAt w site (called b)) [] (plain_answer c.args.made) [] all in
      subst (AreLast w site) (sym c.keep.ensures)
      (last_set w site c.args.self.now.answered (plain_reply c.in_ok-copy.field-0) are
      (subst (IsCallAt w site) (sym (ap (λ (r : Reply). r.call) c.in_ok-copy.ensures ∙ c.requires.call)) at));
}
