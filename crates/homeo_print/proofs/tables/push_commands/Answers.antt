use Rattle.std.proofs.Common.{List, ℕ, Bor, map, arith}
use Rattle.homeo_syntax.specs.Source as s
use Rattle.homeo_syntax.specs.SourceView.{plain_workload}
use Rattle.homeo_syntax.specs.LowView.{low_commands, plain_lcommand}
use Rattle.homeo_syntax.specs.declared.low.LCommand.{LCommand}
use Rattle.homeo_print.specs.Tables.{command_text, commands_text}
use Rattle.homeo_print.proofs.TableSteps.{commands_behind, no_commands, no_command, commands_are}
use Rattle.homeo_print.proofs.Listed.{list_end, list_none, list_start}
use Rattle.homeo_print.proofs.tables.push_commands.Goals as goal

abbrev one : s.Workload → Bor LCommand → List ℕ
one w c = command_text w (plain_lcommand c.now)

abbrev all : s.Workload → List (Bor LCommand) → List ℕ
all w cs = commands_text w (low_commands (map (λ c. plain_lcommand c.now) cs))

pub loop-c-init : goal.loop-c-init
loop-c-init c =
    let w = plain_workload c.args.w.now in
    list_start (one w) (commands_behind w) (all w) (no_commands w) c.push_command.new.out.items

pub returns-in-empty : goal.returns-in-empty
returns-in-empty c =
    let w = plain_workload c.args.w.now in
    list_none (one w) (commands_behind w) (all w) (no_command w) c.args.out.now.items c.args.commands.now (omega arith)

pub returns-after-loop-c : goal.returns-after-loop-c
returns-after-loop-c c =
    let w = plain_workload c.args.w.now in
    list_end (one w) (commands_behind w) (all w) (commands_are w) c.loop-c.out.items c.push_command.new.out.items c.args.out.now.items c.args.commands.now c.first-item.result c.loop-c.c-index
    (omega arith) c.first-item.is c.in_ok-push_command-in-len1-up.ensures c.loop-c-test.false c.loop-c.invariant
