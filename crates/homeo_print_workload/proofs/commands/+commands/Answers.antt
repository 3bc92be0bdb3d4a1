use Rattle.std.proofs.Common.{List, map, arith}
use Rattle.homeo_syntax.specs.SourceView.{commands, plain_command}
use Rattle.homeo_syntax.specs.declared.command.Command.{Command}
use Rattle.homeo_print_workload.specs.TokensOf.{Kinds, command_kinds, commands_kinds}
use Rattle.homeo_print_workload.proofs.Behind.{commands_behind}
use Rattle.homeo_print.proofs.Listed.{list_end, list_none, list_start}
use Rattle.homeo_print_workload.proofs.CommandSteps.{no_commands, no_command, commands_are}
use Rattle.homeo_print_workload.proofs.commands.+commands.Goals as goal

abbrev one : Command → Kinds
one c = command_kinds (plain_command c)

abbrev all : List Command → Kinds
all cs = commands_kinds (commands (map plain_command cs))

pub push_commands-loop-c-init : goal.push_commands-loop-c-init
push_commands-loop-c-init t c = list_start one commands_behind all no_commands c.push_command.new.out

pub push_commands-returns-in-empty : goal.push_commands-returns-in-empty
push_commands-returns-in-empty t c = record { pushed = list_none one commands_behind all no_command c.args.out.now c.args.cs.now (omega arith) }

pub push_commands-returns-after-loop-c : goal.push_commands-returns-after-loop-c
push_commands-returns-after-loop-c t c = record {
  pushed = list_end one commands_behind all commands_are c.loop-c.out c.push_command.new.out c.args.out.now c.args.cs.now c.first-item.result c.loop-c.c-index
      (omega arith) c.first-item.is c.in_ok-push_command-in-len1-up.ensures.pushed c.loop-c-test.false c.loop-c.invariant;
}
