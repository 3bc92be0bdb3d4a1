use Rattle.std.proofs.Common.{◌+◌, ◌*◌}
use Rattle.homeo_syntax.specs.LowView.{plain_lcommand}
use Rattle.homeo_certificate.specs.Parse.{parse_command}
use Rattle.homeo_cert_reader.proofs.ParseSteps.{SoFar}
use Rattle.homeo_cert_reader.proofs.parsing_commands.+commands.Given as goal

abbrev pub decreases-command : goal.decreases-command
decreases-command l = 4 * l.levels

abbrev pub decreases-boxed : goal.decreases-boxed
decreases-boxed l = 4 * l.levels + 1

abbrev pub decreases-choice : goal.decreases-choice
decreases-choice l = 4 * l.levels + 2

abbrev pub decreases-commands : goal.decreases-commands
decreases-commands l = 4 * l.levels + 1

abbrev pub invariant-commands-loop : goal.invariant-commands-loop
invariant-commands-loop l = SoFar (parse_command l.levels) plain_lcommand l.count l.initial.nodes l.counter l.commands.items l.nodes
