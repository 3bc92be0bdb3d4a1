use Rattle.std.proofs.Common.{◌∙◌, ap, option_map, Some, slice_set}
use Rattle.std.proofs.lemmas.List.{map-set}
use Rattle.homeo_desk.specs.DeskView.{plain_reply}
use Rattle.homeo_desk.proofs.answered.Answered.keep.Goals.{in-Some-1, in-None-1}
use Rattle.homeo_desk.proofs.answered.Answered.keep.Goals as goal

pub returns-then-client-len : goal.returns-then-client-len
returns-then-client-len c =
    let i = c.args.answer.call.client in
    let set = map-set (option_map plain_reply) c.self.inside.last.items i (Some c.args.answer) ∙ ap (λ l. slice_set l i (Some (plain_reply c.args.answer))) c.self.view_is in
    elim c.match-index_mut.branch [ in-Some-1 w ↦ w.self-is ∙ set | in-None-1 w ↦ w.self-is ∙ set ]
