-- The loops read what the repetitions read.
use Rattle.std.proofs.Common.{refl}
use Rattle.homeo_syntax.specs.SourceView.{plain_command}
use Rattle.homeo_reader.specs.inner.Commands.{commands_read, next_command_read}
use Rattle.homeo_reader.proofs.CommandSteps.{semi_command}
use Rattle.homeo_reader.proofs.Repeated.{each, goes_on, fewer, ends, fails}
use Rattle.homeo_reader.proofs.parser.Parser.+command.Goals as goal

pub commands-more-preserved : goal.commands-more-preserved
unfolding commands_read next_command_read
commands-more-preserved t c =
    goes_on c.args.room (each plain_command) (semi_command c.args.version) refl _ _ _ _ _ _ _ c.in_ok-item.ensures c.in-Some.is c.in_ok-push.ensures.items c.more.invariant

pub commands-more-smaller : goal.commands-more-smaller
unfolding next_command_read
commands-more-smaller t c = fewer c.args.room (each plain_command) (semi_command c.args.version) refl _ _ _ _ c.in_ok-item.ensures c.in-Some.is

pub commands-returns : goal.commands-returns
unfolding commands_read next_command_read
commands-returns t c = ends c.args.room (each plain_command) (semi_command c.args.version) refl _ _ _ _ _ c.in_ok-item.ensures c.in_default.is c.more.invariant

pub commands-returns-in_err-item : goal.commands-returns-in_err-item
unfolding commands_read next_command_read
commands-returns-in_err-item t c =
    fails c.args.room (each plain_command) (semi_command c.args.version) refl _ _ _ _ _ _ _ c.in_err-item.ensures c.from_residual-in_err-item.ensures.1 c.more.invariant
