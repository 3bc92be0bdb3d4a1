use Rattle.std.proofs.Common.{◌≡◌, map, Ok}
use Rattle.homeo_cluster.proofs.run.all_of.Given as goal

abbrev pub invariant-loop-result : goal.invariant-loop-result
invariant-loop-result g l = map (λ p. Ok p) l.passes.items ≡ l.yielded
