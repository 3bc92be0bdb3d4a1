-- What has been found, or what is left, is what the whole holds.
use Rattle.std.proofs.Common.{◌≡◌, ◌||◌, map, drop}
use Rattle.homeo_syntax.specs.SourceView.{commands, plain_command}
use Rattle.homeo_meaning.specs.Aborts.{hold_abort}
use Rattle.homeo_meaning.proofs.aborts.+aborts.Given as goal

abbrev pub invariant-hold_abort-loop-c : goal.invariant-hold_abort-loop-c
invariant-hold_abort-loop-c l =
    (l.held || hold_abort (commands (map plain_command (drop l.c-index l.cs)))) ≡ hold_abort (commands (map plain_command l.cs))
