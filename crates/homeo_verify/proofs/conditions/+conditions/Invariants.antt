-- The tests so far pass, and the comparisons keep them.
use Rattle.std.proofs.Common.{map, drop}
use Rattle.homeo_syntax.specs.LowView.{low_tests, plain_ltest}
use Rattle.homeo_form.specs.Standing.{forms_of}
use Rattle.homeo_verify.proofs.TestSteps.{TestsSoFar}
use Rattle.homeo_verify.proofs.conditions.+conditions.Given as goal

abbrev pub invariant-tests-loop-t : goal.invariant-tests-loop-t
invariant-tests-loop-t l =
    TestsSoFar (forms_of l.standing) l.compared.items (low_tests (map plain_ltest (drop l.t-index l.ts))) (low_tests (map plain_ltest l.ts))
