-- The objects of the tests so far.
use Rattle.std.proofs.Common.{◌≡◌, ◌++◌, take}
use Rattle.std.specs.List.{flat_map}
use Rattle.homeo_syntax.specs.LowView.{plain_ltest}
use Rattle.homeo_follow.specs.Named.{named_in_test}
use Rattle.homeo_build.proofs.names.+conditions.Given as goal

abbrev pub invariant-push_in_tests-loop-test : goal.invariant-push_in_tests-loop-test
invariant-push_in_tests-loop-test l =
    l.names.items ≡ l.initial.names.items ++ flat_map (λ t. named_in_test (plain_ltest t)) (take l.test-index l.tests)
