use Rattle.std.proofs.Common.{◌≡◌, map, option_map, replicate, None}
use Rattle.homeo_desk.specs.DeskView.{plain_reply}
use Rattle.homeo_desk.proofs.answered.Answered.new.Given as goal

abbrev pub invariant-loop : goal.invariant-loop
invariant-loop l = map (option_map plain_reply) l.last.items ≡ replicate l.counter None
