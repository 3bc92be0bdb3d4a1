use Rattle.std.proofs.Common.{◌≡◌, map, option_map, take}
use Rattle.std.specs.List.{filter_map}
use Rattle.homeo_desk.specs.DeskView.{plain_reply}
use Rattle.homeo_desk.proofs.answered.Answered.copies.Given as goal

abbrev pub invariant-loop-answer : goal.invariant-loop-answer
invariant-loop-answer l = map plain_reply l.copies.items ≡ filter_map (λ o. o) (map (option_map plain_reply) (take l.answer-index l.answer-items))
