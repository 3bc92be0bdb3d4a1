-- The commands so far are copied.
use Rattle.std.proofs.Common.{◌≡◌, map, take}
use Rattle.homeo_syntax.specs.LowView.{plain_lcommand}
use Rattle.homeo_whole_tables.proofs.tables.copied_commands.Given as goal

abbrev pub invariant-loop-command : goal.invariant-loop-command
invariant-loop-command l = map plain_lcommand l.copies.items ≡ map (λ c. plain_lcommand c.now) (take l.command-index l.commands)
