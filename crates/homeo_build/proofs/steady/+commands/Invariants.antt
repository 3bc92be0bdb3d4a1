-- The commands so far are steady.
use Rattle.std.proofs.Common.{map, take}
use Rattle.homeo_syntax.specs.LowView.{low_commands, plain_lcommand}
use Rattle.homeo_follow.specs.Steady.{AreSteady}
use Rattle.homeo_build.proofs.steady.+commands.Given as goal

abbrev pub invariant-are_steady-loop-command : goal.invariant-are_steady-loop-command
invariant-are_steady-loop-command l = AreSteady (low_commands (map plain_lcommand (take l.command-index l.commands)))
