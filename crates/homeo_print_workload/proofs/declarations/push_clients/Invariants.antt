use Rattle.std.proofs.Common.{◌≡◌, ◌++◌, take, map}
use Rattle.std.specs.List.{flat_map}
use Rattle.homeo_syntax.specs.SourceView.{plain_client}
use Rattle.homeo_print_workload.specs.TokensOf.{client_kinds}
use Rattle.homeo_print_workload.proofs.declarations.push_clients.Given as goal

abbrev pub invariant-loop-c : goal.invariant-loop-c
invariant-loop-c l = l.out ≡ l.fn.out ++ flat_map client_kinds (map plain_client (take l.c-index l.cs))
