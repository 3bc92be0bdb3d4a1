use Rattle.std.proofs.Common.{◌≡◌, ◌++◌, take}
use Rattle.std.specs.List.{flat_map}
use Rattle.homeo_print_workload.specs.TokensOf.{name_of}
use Rattle.homeo_print_workload.proofs.declarations.push_names.Given as goal

abbrev pub invariant-loop-x : goal.invariant-loop-x
invariant-loop-x l = l.out ≡ l.fn.out ++ flat_map name_of (take l.x-index l.xs)
