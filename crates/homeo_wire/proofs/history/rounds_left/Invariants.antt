-- The rounds so far.
use Rattle.std.proofs.Common.{◌≡◌, map, take}
use Rattle.homeo_history.specs.HistoryView.{plain_round}
use Rattle.homeo_wire.specs.Read.{rounds_left}
use Rattle.homeo_wire.specs.WireView.{plain_left, plain_journal}
use Rattle.homeo_wire.proofs.history.rounds_left.Given as goal

abbrev pub invariant-loop-i : goal.invariant-loop-i
invariant-loop-i l = map plain_round l.rounds.items ≡ rounds_left (map plain_journal l.nodes) 0 (map plain_left (take l.i l.left))
