use Rattle.std.proofs.Common.{◌≡◌, map, take}
use Rattle.homeo_context.proofs.declarations.transaction_names.Given as goal

abbrev pub invariant-loop-transaction : goal.invariant-loop-transaction
invariant-loop-transaction l = l.names.items ≡ map (λ t. t.name.name) (take l.transaction-index l.transactions)
