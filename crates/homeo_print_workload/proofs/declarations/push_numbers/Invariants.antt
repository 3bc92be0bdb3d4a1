use Rattle.std.proofs.Common.{◌≡◌, ◌++◌, take}
use Rattle.homeo_print_workload.proofs.Behind.{numbers_behind}
use Rattle.homeo_print_workload.proofs.declarations.push_numbers.Given as goal

abbrev pub invariant-loop-n : goal.invariant-loop-n
invariant-loop-n l = l.out ≡ l.initial.out ++ numbers_behind (take l.n-index l.more)
