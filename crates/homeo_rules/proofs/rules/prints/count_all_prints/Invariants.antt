use Rattle.std.proofs.Common.{◌≡◌, ℤ, List, map, take}
use Rattle.homeo_rules.specs.inner.Printing.{capped_prints}
use Rattle.homeo_rules.specs.inner.Sizes.{workload_of}
use Rattle.homeo_rules.proofs.rules.prints.count_all_prints.Given as goal

abbrev pub invariant-loop-t : goal.invariant-loop-t
invariant-loop-t l = (args : List ℤ) → l.counts.items ≡ map (capped_prints (workload_of l.measuring) args) (take l.t-index l.ts)
