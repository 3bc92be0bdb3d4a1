-- The comparisons so far are pushed.
use Rattle.std.proofs.Common.{◌≡◌, ◌++◌}
use Rattle.homeo_verify.proofs.conditions.push_all.Given as goal

abbrev pub invariant-loop-one : goal.invariant-loop-one
invariant-loop-one l = l.compared.items ≡ l.initial.compared.items ++ l.yielded
