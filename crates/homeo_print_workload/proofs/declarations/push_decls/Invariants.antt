use Rattle.std.proofs.Common.{◌≡◌, ◌++◌, take}
use Rattle.homeo_print_workload.proofs.Behind.{decls_behind}
use Rattle.homeo_print_workload.proofs.declarations.push_decls.Given as goal

abbrev pub invariant-loop-d : goal.invariant-loop-d
invariant-loop-d l = l.out ≡ l.initial.out ++ decls_behind (take l.d-index l.more)
