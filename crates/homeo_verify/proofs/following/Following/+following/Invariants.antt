-- The commands so far have no fault.
use Rattle.std.proofs.Common.{map, drop}
use Rattle.homeo_syntax.specs.LowView.{low_commands, plain_lcommand}
use Rattle.homeo_verify.proofs.FollowSteps.{CommandsSoFar}
use Rattle.homeo_verify.proofs.following.Following.+following.Given as goal

abbrev pub invariant-follow_all-loop-command : goal.invariant-follow_all-loop-command
invariant-follow_all-loop-command l =
    CommandsSoFar l.initial.self l.self (low_commands (map plain_lcommand (drop l.command-index l.commands))) (low_commands (map plain_lcommand l.commands))
