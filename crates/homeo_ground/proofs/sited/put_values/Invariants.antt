-- The loop of `put_values`.
use Rattle.std.proofs.Common.{◌≡◌, take}
use Rattle.homeo_ground.specs.Sited.{values}
use Rattle.homeo_ground.proofs.sited.put_values.Given as goal

abbrev pub invariant-loop-number : goal.invariant-loop-number
invariant-loop-number l = l.list.items ≡ values (take l.number-index l.numbers)
