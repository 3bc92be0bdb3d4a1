use Rattle.std.proofs.Common.{◌≡◌, ◌++◌, take}
use Rattle.homeo_print_workload.proofs.Behind.{commands_behind}
use Rattle.homeo_print_workload.proofs.commands.+commands.Given as goal

abbrev pub invariant-push_commands-loop-c : goal.invariant-push_commands-loop-c
invariant-push_commands-loop-c l = l.out ≡ l.initial.out ++ commands_behind (take l.c-index l.more)
