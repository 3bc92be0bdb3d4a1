use Rattle.std.proofs.Common.{◌≡◌, map, take}
use Rattle.homeo_carry.specs.CarryView.{plain_said}
use Rattle.homeo_live.proofs.states.copy_all.Given as goal

abbrev pub invariant-loop-said : goal.invariant-loop-said
invariant-loop-said l = map plain_said l.copies.items ≡ map plain_said (take l.said-index l.states)
