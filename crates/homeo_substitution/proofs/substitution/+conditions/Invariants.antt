-- What is put into the tests so far.
use Rattle.std.proofs.Common.{◌≡◌, map, take}
use Rattle.homeo_syntax.specs.LowView.{plain_ltest}
use Rattle.homeo_substitution.specs.Bindings.{bound}
use Rattle.homeo_substitution.specs.Substitution.{substituted_test}
use Rattle.homeo_substitution.proofs.substitution.+conditions.Given as goal

abbrev pub invariant-each_test-loop-t : goal.invariant-each_test-loop-t
invariant-each_test-loop-t l =
    map plain_ltest l.made.items ≡ map (substituted_test (bound l.put)) (map plain_ltest (take l.t-index l.ts))
