use Rattle.std.proofs.Common.{◌≡◌, ◌+◌, ◌*◌, [], ◌∷◌, length}
use Rattle.homeo_syntax.specs.SourceView.{plain_command}
use Rattle.homeo_reader.specs.inner.Reading.{with_front}
use Rattle.homeo_reader.specs.inner.Commands.{command_views, commands_read}
use Rattle.homeo_reader.proofs.parser.Parser.+command.Given as goal

abbrev pub decreases-command : goal.decreases-command
decreases-command l = 8 * l.room

abbrev pub decreases-boxed_command : goal.decreases-boxed_command
decreases-boxed_command l = 8 * l.room + 1

abbrev pub decreases-choice_after_if : goal.decreases-choice_after_if
decreases-choice_after_if l = 8 * l.room + 2

abbrev pub decreases-next_command : goal.decreases-next_command
decreases-next_command l = 8 * l.room + 1

abbrev pub decreases-commands : goal.decreases-commands
decreases-commands l = 8 * l.room + 3

abbrev pub decreases-block : goal.decreases-block
decreases-block l = 8 * l.room + 4

abbrev pub decreases-body_after_foreach : goal.decreases-body_after_foreach
decreases-body_after_foreach l = 8 * l.room + 5

abbrev pub invariant-commands-more : goal.invariant-commands-more
invariant-commands-more l = with_front (command_views l.items.items) (commands_read l.version l.room l.self.rest.now) ≡ with_front (plain_command l.fn.first ∷ []) (commands_read l.version l.room l.initial.self.rest.now)

abbrev pub decreases-commands-more : goal.decreases-commands-more
decreases-commands-more l = length l.self.rest.now
