use Rattle.std.proofs.Common.{◌≡◌, ◌++◌, take}
use Rattle.homeo_syntax.specs.SourceView.{plain_workload}
use Rattle.homeo_print.proofs.TableSteps.{commands_behind}
use Rattle.homeo_print.proofs.tables.push_commands.Given as goal

abbrev pub invariant-loop-c : goal.invariant-loop-c
invariant-loop-c l = l.out.items ≡ l.initial.out.items ++ commands_behind (plain_workload l.w) (take l.c-index l.more)
