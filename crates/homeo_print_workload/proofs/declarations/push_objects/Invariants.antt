use Rattle.std.proofs.Common.{◌≡◌, ◌++◌, take}
use Rattle.std.specs.List.{flat_map}
use Rattle.homeo_print_workload.specs.TokensOf.{object_kinds}
use Rattle.homeo_print_workload.proofs.declarations.push_objects.Given as goal

abbrev pub invariant-loop-d : goal.invariant-loop-d
invariant-loop-d l = l.out ≡ l.fn.out ++ flat_map object_kinds (take l.d-index l.ds)
