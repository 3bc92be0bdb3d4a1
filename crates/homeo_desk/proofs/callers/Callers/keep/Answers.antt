use Rattle.std.proofs.Common.{◌∷◌, [], ◌++◌, map, Some, ap, subst, sym, ◌∙◌, append_assoc, slice_set}
use Rattle.std.specs.Vec.Iter.{into_iter_items}
use Rattle.std.proofs.lemmas.List.{map-append}
use Rattle.homeo_syntax.specs.SourceView.{plain_workload}
use Rattle.homeo_desk.specs.DeskView.{last_answers, plain_reply}
use Rattle.homeo_desk.specs.inner.Keeping.{AreLast}
use Rattle.homeo_desk.proofs.Giving.{last_more}
use Rattle.homeo_desk.proofs.Keeping.{last_set}
use Rattle.homeo_desk.proofs.callers.Callers.keep.Goals as goal

pub loop-answer-preserved : goal.loop-answer-preserved
loop-answer-preserved c =
    let was = c.loop-answer.invariant in
    let ys = c.loop-answer.yielded in
    let one = c.in-Some.answer in
    let first = c.args.self.now.answered in
    let w = plain_workload c.args.node.now.work in
    let site = c.args.node.now.node.number in
    record {
      rest = append_assoc ys (one ∷ []) (into_iter_items c.next.new.self) ∙ ap (λ xs. ys ++ xs) (sym c.in-Some.ensures.steps.0) ∙ was.rest;
      queue = was.queue;
      places = was.places;
      answered = c.keep.ensures ∙ ap (λ l. slice_set l one.call.client (Some (plain_reply one))) was.answered
          ∙ sym (last_more (map plain_reply ys) (plain_reply one ∷ []) first) ∙ ap (λ rs. last_answers rs first) (sym (map-append plain_reply ys (one ∷ [])));
      last = λ are. subst (AreLast w site) (sym c.keep.ensures)
          (last_set w site c.loop-answer.self.answered (plain_reply one) (was.last are) (c.can_ask.ensures.yes c.if-not-can_ask.false));
    }
