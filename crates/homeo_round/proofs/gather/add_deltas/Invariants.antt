-- The deltas so far are added.
use Rattle.std.proofs.Common.{◌≡◌, take}
use Rattle.homeo_round.specs.PlusDeltas.{plus_deltas}
use Rattle.homeo_round.proofs.gather.add_deltas.Given as goal

abbrev pub invariant-loop-i : goal.invariant-loop-i
invariant-loop-i l = l.values ≡ plus_deltas l.initial.values (take l.i l.deltas)
