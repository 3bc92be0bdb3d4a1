-- The tests so far are pushed.
use Rattle.std.proofs.Common.{◌≡◌, ◌++◌, map, take}
use Rattle.homeo_syntax.specs.LowView.{plain_ltest}
use Rattle.homeo_substitution.specs.Bindings.{bound}
use Rattle.homeo_substitution.specs.Substitution.{substituted_test}
use Rattle.homeo_table.proofs.making.push_tests.Given as goal

abbrev pub invariant-loop-t : goal.invariant-loop-t
invariant-loop-t l =
    map plain_ltest l.made.items ≡
    map plain_ltest l.initial.made.items ++ map (substituted_test (bound l.put)) (map plain_ltest (take l.t-index l.tests))
