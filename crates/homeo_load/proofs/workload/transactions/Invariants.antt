-- As many as so far.
use Rattle.std.proofs.Common.{◌≡◌, map}
use Rattle.std.specs.List.{range_with_len}
use Rattle.homeo_syntax.specs.SourceView.{plain_transaction}
use Rattle.homeo_load.specs.Load.{load_transaction}
use Rattle.homeo_load.proofs.workload.transactions.Given as goal

abbrev pub invariant-loop-i : goal.invariant-loop-i
invariant-loop-i l = map plain_transaction l.list.items ≡ map load_transaction (range_with_len 0 l.i)
