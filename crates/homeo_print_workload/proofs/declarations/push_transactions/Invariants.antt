use Rattle.std.proofs.Common.{◌≡◌, ◌++◌, take, map}
use Rattle.std.specs.List.{flat_map}
use Rattle.homeo_syntax.specs.SourceView.{plain_transaction}
use Rattle.homeo_print_workload.specs.TokensOf.{transaction_kinds}
use Rattle.homeo_print_workload.proofs.declarations.push_transactions.Given as goal

abbrev pub invariant-loop-t : goal.invariant-loop-t
invariant-loop-t l = l.out ≡ l.fn.out ++ flat_map transaction_kinds (map plain_transaction (take l.t-index l.ts))
