-- Each kind of test, and one more test of a condition.
use Rattle.std.proofs.Common.{◌≡◌, ◌+◌, map, drop, not, sym, ap, ◌∙◌, subst}
use Rattle.std.proofs.lemmas.Bool.{not-true, not-false}
use Rattle.homeo_syntax.specs.Low.{Not}
use Rattle.homeo_syntax.specs.LowView.{low_tests, plain_ltest, plain_lcond}
use Rattle.homeo_syntax.proofs.LowViews.{low_True, low_Not}
use Rattle.homeo_meaning.specs.Key.{definitions as meaning_definitions}
use Rattle.homeo_meaning.specs.LowMeaning.{passes}
use Rattle.homeo_form.specs.Standing.{forms_of}
use Rattle.homeo_certificate.specs.Key.{definitions}
use Rattle.homeo_certificate.specs.Met.{at_zero, met_in_test}
use Rattle.homeo_certificate.specs.Followed.{too_large}
use Rattle.homeo_verify.specs.inner.Compares.{Give, kept_in_test}
use Rattle.homeo_verify.proofs.Stopping.{stop_with, stops_as}
use Rattle.homeo_verify.proofs.TestSteps.{true_gives, not_gives, tests_start, next_test, last_test, test_stops, test_goes_on, fails_small, fails_holds, fails_give, tests_small, tests_hold, tests_give}
use Rattle.homeo_verify.proofs.conditions.+conditions.Goals as goal

pub test-returns-in_err-tested-in-Not-clause-faults : goal.test-returns-in_err-tested-in-Not-clause-faults
unfolding definitions
test-returns-in_err-tested-in-Not-clause-faults t c =
    let f = forms_of c.args.standing.now in
    let is : plain_ltest c.args.t.now ≡ Not (plain_lcond c.in-Not.c) = ap plain_ltest c.in-Not.is ∙ low_Not c.in-Not.c in
    stop_with _ c.from_residual.result _ c.from_residual.ensures.1
    (stops_as _ _ _ (ap (λ x. too_large (met_in_test f x)) (sym is)) c.in_err-tested-in-Not.ensures.faults)

pub test-returns-in-True-clause-faults : goal.test-returns-in-True-clause-faults
unfolding definitions
test-returns-in-True-clause-faults t c =
    ap (λ x. too_large (met_in_test (forms_of c.args.standing.now) x)) (ap plain_ltest c.in-True.is ∙ low_True)

pub test-returns-in-True-clause-holds : goal.test-returns-in-True-clause-holds
unfolding meaning_definitions
test-returns-in-True-clause-holds t c =
    sym (ap (λ x. passes x (at_zero (forms_of c.args.standing.now))) (ap plain_ltest c.in-True.is ∙ low_True))

pub test-returns-in-True-clause-kept : goal.test-returns-in-True-clause-kept
test-returns-in-True-clause-kept t c =
    let f = forms_of c.args.standing.now in
    subst (λ x. Give c.new.result.items (kept_in_test f x)) (sym (ap plain_ltest c.in-True.is ∙ low_True)) (true_gives f c.new.result.items c.new.ensures.items)

pub test-returns-in_ok-tested-in-Not-clause-faults : goal.test-returns-in_ok-tested-in-Not-clause-faults
unfolding definitions
test-returns-in_ok-tested-in-Not-clause-faults t c =
    let is : plain_ltest c.args.t.now ≡ Not (plain_lcond c.in-Not.c) = ap plain_ltest c.in-Not.is ∙ low_Not c.in-Not.c in
    ap (λ x. too_large (met_in_test (forms_of c.args.standing.now) x)) is ∙ c.in_ok-tested-in-Not.ensures.faults

pub test-returns-in_ok-tested-in-Not-clause-holds : goal.test-returns-in_ok-tested-in-Not-clause-holds
unfolding meaning_definitions
test-returns-in_ok-tested-in-Not-clause-holds t c =
    let is : plain_ltest c.args.t.now ≡ Not (plain_lcond c.in-Not.c) = ap plain_ltest c.in-Not.is ∙ low_Not c.in-Not.c in
    ap not c.in_ok-tested-in-Not.ensures.holds ∙ sym (ap (λ x. passes x (at_zero (forms_of c.args.standing.now))) is)

pub test-returns-in_ok-tested-in-Not-clause-kept : goal.test-returns-in_ok-tested-in-Not-clause-kept
test-returns-in_ok-tested-in-Not-clause-kept t c =
    let f = forms_of c.args.standing.now in
    let is : plain_ltest c.args.t.now ≡ Not (plain_lcond c.in-Not.c) = ap plain_ltest c.in-Not.is ∙ low_Not c.in-Not.c in
    subst (λ x. Give c.in_ok-tested-in-Not.tested.compared.items (kept_in_test f x)) (sym is)
    (not_gives f c.in_ok-tested-in-Not.tested.compared.items (plain_lcond c.in-Not.c) c.in_ok-tested-in-Not.ensures.kept)

pub tests-loop-t-init : goal.tests-loop-t-init
tests-loop-t-init t c =
    tests_start (forms_of c.args.standing.now) c.new-compared.result.items (low_tests (map plain_ltest c.args.ts.now)) c.new-compared.ensures.items

pub tests-returns-in_err-tested-clause-faults : goal.tests-returns-in_err-tested-clause-faults
tests-returns-in_err-tested-clause-faults t c =
    let f = forms_of c.args.standing.now in
    let all = low_tests (map plain_ltest c.args.ts.now) in
    let rest = low_tests (map plain_ltest (drop (c.loop-t.t-index + 1) c.args.ts.now)) in
    let s = next_test f c.loop-t.compared.items c.args.ts.now c.loop-t.t-index c.t-item.result all c.loop-t-test.true c.t-item.is c.loop-t.invariant in
    stop_with _ c.from_residual.result _ c.from_residual.ensures.1
    (test_stops f c.loop-t.compared.items (plain_ltest c.t-item.result) rest all s _ c.in_err-tested.ensures.faults)

pub tests-returns-then-not-tested-clause-faults : goal.tests-returns-then-not-tested-clause-faults
tests-returns-then-not-tested-clause-faults t c =
    let f = forms_of c.args.standing.now in
    let all = low_tests (map plain_ltest c.args.ts.now) in
    let rest = low_tests (map plain_ltest (drop (c.loop-t.t-index + 1) c.args.ts.now)) in
    let s = next_test f c.loop-t.compared.items c.args.ts.now c.loop-t.t-index c.t-item.result all c.loop-t-test.true c.t-item.is c.loop-t.invariant in
    let k = c.in_ok-tested.tested in
    let e = c.in_ok-tested.ensures in
    fails_small f c.loop-t.compared.items (plain_ltest c.t-item.result) rest all s k.holds k.compared.items e.faults e.holds e.kept (not-true k.holds c.if-not-tested.true)

pub tests-returns-then-not-tested-clause-holds : goal.tests-returns-then-not-tested-clause-holds
tests-returns-then-not-tested-clause-holds t c =
    let f = forms_of c.args.standing.now in
    let all = low_tests (map plain_ltest c.args.ts.now) in
    let rest = low_tests (map plain_ltest (drop (c.loop-t.t-index + 1) c.args.ts.now)) in
    let s = next_test f c.loop-t.compared.items c.args.ts.now c.loop-t.t-index c.t-item.result all c.loop-t-test.true c.t-item.is c.loop-t.invariant in
    let k = c.in_ok-tested.tested in
    let e = c.in_ok-tested.ensures in
    fails_holds f c.loop-t.compared.items (plain_ltest c.t-item.result) rest all s k.holds k.compared.items e.faults e.holds e.kept (not-true k.holds c.if-not-tested.true)

pub tests-returns-then-not-tested-clause-kept : goal.tests-returns-then-not-tested-clause-kept
tests-returns-then-not-tested-clause-kept t c =
    let f = forms_of c.args.standing.now in
    let all = low_tests (map plain_ltest c.args.ts.now) in
    let rest = low_tests (map plain_ltest (drop (c.loop-t.t-index + 1) c.args.ts.now)) in
    let s = next_test f c.loop-t.compared.items c.args.ts.now c.loop-t.t-index c.t-item.result all c.loop-t-test.true c.t-item.is c.loop-t.invariant in
    let k = c.in_ok-tested.tested in
    let e = c.in_ok-tested.ensures in
    fails_give f c.loop-t.compared.items (plain_ltest c.t-item.result) rest all s k.holds k.compared.items e.faults e.holds e.kept (not-true k.holds c.if-not-tested.true)

pub tests-loop-t-preserved : goal.tests-loop-t-preserved
tests-loop-t-preserved t c =
    let f = forms_of c.args.standing.now in
    let all = low_tests (map plain_ltest c.args.ts.now) in
    let rest = low_tests (map plain_ltest (drop (c.loop-t.t-index + 1) c.args.ts.now)) in
    let s = next_test f c.loop-t.compared.items c.args.ts.now c.loop-t.t-index c.t-item.result all c.loop-t-test.true c.t-item.is c.loop-t.invariant in
    let k = c.in_ok-tested.tested in
    let e = c.in_ok-tested.ensures in
    test_goes_on f c.loop-t.compared.items (plain_ltest c.t-item.result) rest all s k.holds k.compared.items e.faults e.holds e.kept (not-false k.holds c.if-not-tested.false) _
    c.in_ok-push_all.ensures

pub tests-returns-clause-faults : goal.tests-returns-clause-faults
tests-returns-clause-faults t c =
    let f = forms_of c.args.standing.now in
    let all = low_tests (map plain_ltest c.args.ts.now) in
    tests_small f c.loop-t.compared.items all (last_test f c.loop-t.compared.items c.args.ts.now c.loop-t.t-index all c.loop-t-test.false c.loop-t.invariant)

pub tests-returns-clause-holds : goal.tests-returns-clause-holds
tests-returns-clause-holds t c =
    let f = forms_of c.args.standing.now in
    let all = low_tests (map plain_ltest c.args.ts.now) in
    tests_hold f c.loop-t.compared.items all (last_test f c.loop-t.compared.items c.args.ts.now c.loop-t.t-index all c.loop-t-test.false c.loop-t.invariant)

pub tests-returns-clause-kept : goal.tests-returns-clause-kept
tests-returns-clause-kept t c =
    let f = forms_of c.args.standing.now in
    let all = low_tests (map plain_ltest c.args.ts.now) in
    tests_give f c.loop-t.compared.items all (last_test f c.loop-t.compared.items c.args.ts.now c.loop-t.t-index all c.loop-t-test.false c.loop-t.invariant)
