-- The tests so far are moved.
use Rattle.std.proofs.Common.{◌≡◌, ◌++◌, map}
use Rattle.homeo_syntax.specs.LowView.{plain_ltest}
use Rattle.homeo_table.proofs.making.move_tests.Given as goal

abbrev pub invariant-loop-test : goal.invariant-loop-test
invariant-loop-test l = map plain_ltest l.made.items ≡ map plain_ltest l.initial.made.items ++ map plain_ltest l.yielded
