-- What is left, after what has been measured, is as large as the whole.
use Rattle.std.proofs.Common.{◌≡◌, map, drop}
use Rattle.homeo_syntax.specs.LowView.{low_tests, plain_ltest}
use Rattle.homeo_size.specs.inner.Parts.{nothing}
use Rattle.homeo_size.specs.inner.Sizing.{tests_sized}
use Rattle.homeo_size.specs.inner.Tables.{sizes_in}
use Rattle.homeo_size.proofs.extents.Extents.+tests.Given as goal

abbrev pub invariant-tests-loop-t : goal.invariant-tests-loop-t
invariant-tests-loop-t l =
    tests_sized (low_tests (map plain_ltest (drop l.t-index l.ts))) (sizes_in l.self) l.all ≡ tests_sized (low_tests (map plain_ltest l.ts)) (sizes_in l.self) nothing
