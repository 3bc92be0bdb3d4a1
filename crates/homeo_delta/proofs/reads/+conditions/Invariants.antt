use Rattle.std.proofs.Common.{◌≡◌, map, take}
use Rattle.homeo_syntax.specs.LowView.{plain_ltest}
use Rattle.homeo_plan.specs.Split.{shift_test}
use Rattle.homeo_delta.proofs.reads.+conditions.Given as goal

abbrev pub invariant-shift_tests-loop-t : goal.invariant-shift_tests-loop-t
invariant-shift_tests-loop-t l = map plain_ltest l.shifted.items ≡ map (shift_test l.sites) (map plain_ltest (take l.t-index l.ts))
