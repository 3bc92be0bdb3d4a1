use Rattle.std.proofs.Common.{◌∷◌, [], ◌++◌, map, option_map, take, ap, sym, ◌∙◌}
use Rattle.std.specs.List.{filter_map}
use Rattle.std.proofs.lemmas.List.Elements.{filter_map-append}
use Rattle.homeo_lemmas.proofs.Lists.{map_take_more}
use Rattle.homeo_desk.specs.DeskView.{plain_reply}
use Rattle.homeo_desk.proofs.answered.Answered.copies.Goals as goal

pub loop-answer-preserved : goal.loop-answer-preserved
loop-answer-preserved c =
    let items = c.as_slice-answer-items.result.now in
    let i = c.loop-answer.answer-index in
    let x = c.answer-item.result in
    c.in_ok-copy_some.ensures
    ∙ ap (λ l. l ++ filter_map (λ o. o) (option_map plain_reply x ∷ [])) c.loop-answer.invariant
    ∙ sym (filter_map-append (λ o. o) (map (option_map plain_reply) (take i items)) (option_map plain_reply x ∷ []))
    ∙ ap (filter_map (λ o. o)) (sym (map_take_more (option_map plain_reply) items i x c.loop-answer-test.true c.answer-item.is))
