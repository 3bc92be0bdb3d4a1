-- The objects of the commands so far.
use Rattle.std.proofs.Common.{◌≡◌, ◌++◌, take}
use Rattle.std.specs.List.{flat_map}
use Rattle.homeo_syntax.specs.LowView.{plain_lcommand}
use Rattle.homeo_follow.specs.Named.{named}
use Rattle.homeo_build.proofs.names.+commands.Given as goal

abbrev pub invariant-push_in_all-loop-command : goal.invariant-push_in_all-loop-command
invariant-push_in_all-loop-command l =
    l.names.items ≡ l.initial.names.items ++ flat_map (λ c. named (plain_lcommand c)) (take l.command-index l.commands)
