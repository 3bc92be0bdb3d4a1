-- The tests so far are copied.
use Rattle.std.proofs.Common.{◌≡◌, map, take}
use Rattle.homeo_syntax.specs.LowView.{plain_ltest}
use Rattle.homeo_whole_tables.proofs.tables.copied_tests.Given as goal

abbrev pub invariant-loop-test : goal.invariant-loop-test
invariant-loop-test l = map plain_ltest l.copies.items ≡ map plain_ltest (take l.test-index l.tests)
