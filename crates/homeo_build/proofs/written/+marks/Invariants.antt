use Rattle.std.proofs.Common.{map, take}
use Rattle.homeo_syntax.specs.LowView.{low_commands, plain_lcommand}
use Rattle.homeo_build.specs.inner.WrittenObjects.{any_writes_object}
use Rattle.homeo_build.proofs.WrittenDeltas.{Marked}
use Rattle.homeo_build.proofs.written.+marks.Given as goal

abbrev pub invariant-mark_all-loop-command : goal.invariant-mark_all-loop-command
invariant-mark_all-loop-command l =
    Marked l.row.items l.initial.row.items (λ x. any_writes_object x (low_commands (map plain_lcommand (take l.command-index l.commands))))
