use Rattle.std.proofs.Common.{◌≡◌, ◌++◌, take}
use Rattle.homeo_print_workload.proofs.Behind.{calls_behind}
use Rattle.homeo_print_workload.proofs.declarations.push_calls.Given as goal

abbrev pub invariant-loop-c : goal.invariant-loop-c
invariant-loop-c l = l.out ≡ l.initial.out ++ calls_behind (take l.c-index l.more)
