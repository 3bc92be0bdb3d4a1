use Rattle.std.proofs.Common.{◌≡◌, [], ◌∙◌, ap, sym, subst, map, length, take, drop}
use Rattle.std.specs.Prelude.{OnOk}
use Rattle.std.proofs.lemmas.List.{length-map}
use Rattle.homeo_history.specs.Answers.{called}
use Rattle.homeo_history.specs.HistoryView.{plain_answer}
use Rattle.homeo_live.specs.Key.{definitions}
use Rattle.homeo_live.specs.LiveView.{plain_step}
use Rattle.homeo_desk.specs.DeskView.{calls_of}
use Rattle.homeo_desk.specs.inner.Keeping.{KeepsLast, StaysWithin, Tells, closed_by}
use Rattle.homeo_desk.proofs.Giving.{tells_nothing}
use Rattle.homeo_desk.proofs.Keeping.{not_closed}
use Rattle.homeo_desk.proofs.callers.Callers.tell.Goals as goal

pub answer_all-requires : goal.answer_all-requires
unfolding definitions
answer_all-requires c =
    let queue = calls_of c.args.self.now.queue.items in
    ap (λ k. take k queue) (sym (length-map c.in-Closed.answers.items plain_answer))
    ∙ subst (λ s. take (length (closed_by (plain_step s))) queue ≡ map called (closed_by (plain_step s))) c.in-Closed.is c.requires

pub returns-in-Closed-clause-queue : goal.returns-in-Closed-clause-queue
unfolding definitions
returns-in-Closed-clause-queue c =
    c.answer_all.ensures.queue
    ∙ ap (λ k. drop k c.args.self.now.queue.items) (sym (length-map c.in-Closed.answers.items plain_answer) ∙ ap (λ s. length (closed_by (plain_step s))) (sym c.in-Closed.is))

pub returns-in-Closed-clause-tells : goal.returns-in-Closed-clause-tells
unfolding definitions
returns-in-Closed-clause-tells c =
    subst (λ s. OnOk c.answer_all.result (Tells (closed_by (plain_step s)) c.args.self.now.places c.answer_all.new.self.places c.args.self.now.queue.items c.answer_all.new.self.queue.items c.args.self.now.answered c.answer_all.new.self.answered c.args.outputs.now.items c.answer_all.new.outputs.items))
    (sym c.in-Closed.is) c.answer_all.ensures.tells

pub returns-in-Closed-clause-last : goal.returns-in-Closed-clause-last
unfolding definitions
returns-in-Closed-clause-last c =
    subst (λ s. KeepsLast (closed_by (plain_step s)) c.args.self.now.answered c.answer_all.new.self.answered) (sym c.in-Closed.is) c.answer_all.ensures.last

pub returns-in-Closed-clause-round : goal.returns-in-Closed-clause-round
unfolding definitions
returns-in-Closed-clause-round c =
    subst (λ s. StaysWithin (closed_by (plain_step s)) c.args.self.now.places c.answer_all.new.self.places) (sym c.in-Closed.is) c.answer_all.ensures.round

pub returns : goal.returns
returns c =
    let places = c.args.self.now.places in
    let queue = c.args.self.now.queue.items in
    let last = c.args.self.now.answered in
    let outputs = c.args.outputs.now.items in
    let none : closed_by (plain_step c.args.step) ≡ [] = not_closed c.args.step c.in_default.not-Closed in
    record {
      queue = sym (ap (λ ts. drop (length ts) queue) none);
      tells = subst (λ ts. Tells ts places places queue queue last last outputs outputs) (sym none) (tells_nothing places queue last outputs);
      last = record { keeps = λ w site are all. are };
      round = λ last le all. le;
    }
