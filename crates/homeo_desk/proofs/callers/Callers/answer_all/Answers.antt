use Rattle.std.proofs.Common.{◌≡◌, ◌∷◌, [], ◌++◌, map, drop, take, refl, ap, sym, subst, ◌∙◌, append_assoc}
use Rattle.std.specs.Prelude.{All, ◌≤◌}
use Rattle.std.specs.Vec.Iter.{into_iter_items}
use Rattle.std.proofs.lemmas.List.{map-append}
use Rattle.homeo_history.specs.Answers.{called}
use Rattle.homeo_history.specs.HistoryView.{plain_answer}
use Rattle.homeo_history.specs.Legal.{IsCallAt}
use Rattle.homeo_desk.specs.DeskView.{calls_of}
use Rattle.homeo_desk.specs.inner.Keeping.{Tells}
use Rattle.homeo_desk.proofs.Giving.{tells_nothing, tells_then}
use Rattle.homeo_desk.proofs.Keeping.{next_called, all_before, all_here, all_one, both_ok}
use Rattle.homeo_desk.proofs.Lists.{drop_one_more}
use Rattle.homeo_desk.proofs.callers.Callers.answer_all.Goals as goal

pub loop-made-init : goal.loop-made-init
loop-made-init c = record {
  rest = (let gives : into_iter_items c.into_iter-made-iterator.result ≡ c.into_vec-made-items.result.items = c.into_iter-made-iterator.ensures.into_iter_gives.0 in gives ∙ c.into_vec-made-items.ensures);
  queue = refl;
  tells = tells_nothing c.args.self.now.places c.args.self.now.queue.items c.args.self.now.answered c.args.outputs.now.items;
  last = record { keeps = λ w site are all. are };
  round = λ last le all. le;
}

pub answer-one-requires : goal.answer-one-requires
answer-one-requires c =
    let was = c.loop-made.invariant in
    let ys = c.loop-made.yielded in
    let rest = into_iter_items c.next.new.self in
    let is : c.args.answers.items ≡ ys ++ c.in-Some.made ∷ rest = sym was.rest ∙ ap (λ xs. ys ++ xs) c.in-Some.ensures.steps.0 in
    subst (λ q. take 1 (calls_of q) ≡ called (plain_answer c.in-Some.made) ∷ []) (sym was.queue)
    (next_called c.args.self.now.queue.items c.args.answers.items ys rest c.in-Some.made is c.requires)

pub loop-made-preserved : goal.loop-made-preserved
loop-made-preserved c =
    let was = c.loop-made.invariant in
    let ys = c.loop-made.yielded in
    let one = c.in-Some.made in
    let queue = c.args.self.now.queue.items in
    let more = map-append plain_answer ys (one ∷ []) in
    record {
      rest = append_assoc ys (one ∷ []) (into_iter_items c.next.new.self) ∙ ap (λ xs. ys ++ xs) (sym c.in-Some.ensures.steps.0) ∙ was.rest;
      queue = c.answer-one.ensures.queue ∙ ap (drop 1) was.queue ∙ drop_one_more ys one queue;
      tells = both_ok c.loop-made.done c.answer-one.result c.and-done.result c.and-done.ensures was.tells c.answer-one.ensures.tells
          (λ t u. subst (λ ts. Tells ts c.args.self.now.places c.answer-one.new.self.places queue c.answer-one.new.self.queue.items c.args.self.now.answered c.answer-one.new.self.answered c.args.outputs.now.items c.answer-one.new.outputs.items) (sym more)
          (tells_then (map plain_answer ys) (plain_answer one ∷ []) c.args.self.now.places c.loop-made.self.places c.answer-one.new.self.places queue c.loop-made.self.queue.items c.answer-one.new.self.queue.items c.args.self.now.answered c.loop-made.self.answered c.answer-one.new.self.answered
          c.args.outputs.now.items c.loop-made.outputs.items c.answer-one.new.outputs.items t u));
      last = record {
        keeps = λ w site are all.
            let both : All (λ b. IsCallAt w site (called b)) (map plain_answer ys ++ plain_answer one ∷ []) = subst (All (λ b. IsCallAt w site (called b))) more all in
            c.answer-one.ensures.last.keeps w site (was.last.keeps w site are (all_before (λ b. IsCallAt w site (called b)) (map plain_answer ys) (plain_answer one ∷ []) both))
            (all_one (λ b. IsCallAt w site (called b)) (plain_answer one) (all_here (λ b. IsCallAt w site (called b)) (map plain_answer ys) (plain_answer one) [] both));
      };
      round = λ last le all.
          let both : All (λ b. b.round ≤ last) (map plain_answer ys ++ plain_answer one ∷ []) = subst (All (λ b. b.round ≤ last)) more all in
          c.answer-one.ensures.round last (was.round last le (all_before (λ b. b.round ≤ last) (map plain_answer ys) (plain_answer one ∷ []) both))
          (all_one (λ b. b.round ≤ last) (plain_answer one) (all_here (λ b. b.round ≤ last) (map plain_answer ys) (plain_answer one) [] both));
    }
