-- The tests so far and those of the targets that are left are all.
use Rattle.std.proofs.Common.{◌≡◌, map, drop}
use Rattle.homeo_syntax.specs.LowView.{low_tests, plain_ltest}
use Rattle.homeo_meaning.specs.LForm.{all_within}
use Rattle.homeo_desugar.specs.inner.Made.{plain_target, both_tests}
use Rattle.homeo_desugar.proofs.chains.all_within.Given as goal

abbrev pub invariant-loop-target : goal.invariant-loop-target
invariant-loop-target l = both_tests (low_tests (map plain_ltest l.tests.items)) (all_within (map plain_target (drop l.target-index l.targets))) ≡ all_within (map plain_target l.targets)
