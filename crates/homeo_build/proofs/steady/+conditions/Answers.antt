-- No test, one, or two of whether a value is within bounds.
use Rattle.std.proofs.Common.{◌≡◌, length, arith}
use Rattle.homeo_build.proofs.Steadiness.{seen_none, seen_one, seen_two}
use Rattle.homeo_build.proofs.steady.+conditions.Goals as goal

pub is_steady_condition-returns-in-0 : goal.is_steady_condition-returns-in-0
is_steady_condition-returns-in-0 t c = λ yes.
    let count : length c.as_slice-tests.result.now ≡ 0 = omega (arith, c.in-0.is) in
    seen_none c.args.c.now c.as_slice-tests.result.now c.as_slice-tests.ensures count

pub is_steady_condition-returns-in-1 : goal.is_steady_condition-returns-in-1
is_steady_condition-returns-in-1 t c = λ yes.
    let count : length c.as_slice-tests.result.now ≡ 1 = omega (arith, c.in-1.is) in
    seen_one c.args.c.now c.as_slice-tests.result.now c.as_slice-tests.ensures c.index-tests-0.result count c.index-tests-0.is
    (c.is_steady_test.ensures yes)

pub is_steady_condition-returns-in-2 : goal.is_steady_condition-returns-in-2
is_steady_condition-returns-in-2 t c = λ yes.
    let count : length c.as_slice-tests.result.now ≡ 2 = omega (arith, c.in-2.is) in
    seen_two c.args.c.now c.as_slice-tests.result.now c.as_slice-tests.ensures c.index-tests-0-in-2.result c.index-tests-1.result count
    c.index-tests-0-in-2.is c.index-tests-1.is (c.are_bounds.ensures yes)
