use Rattle.std.proofs.Common.{◌≡◌, ◌++◌, map, drop}
use Rattle.homeo_print_workload.specs.inner.Pieces.{kind_of}
use Rattle.homeo_print_workload.specs.Layout.{laid, printed}
use Rattle.homeo_print_workload.proofs.layout.text_of.Given as goal

abbrev pub invariant-loop-piece : goal.invariant-loop-piece
invariant-loop-piece l =
    l.text.items ++ laid l.names l.before (map kind_of (drop l.piece-index l.pieces)) ≡ printed l.names (map kind_of l.pieces)
