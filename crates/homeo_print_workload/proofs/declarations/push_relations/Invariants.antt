use Rattle.std.proofs.Common.{◌≡◌, ◌++◌, take, map}
use Rattle.std.specs.List.{flat_map}
use Rattle.homeo_syntax.specs.SourceView.{plain_relation}
use Rattle.homeo_print_workload.specs.TokensOf.{relation_kinds}
use Rattle.homeo_print_workload.proofs.declarations.push_relations.Given as goal

abbrev pub invariant-loop-r : goal.invariant-loop-r
invariant-loop-r l = l.out ≡ l.fn.out ++ flat_map relation_kinds (map plain_relation (take l.r-index l.rs))
