-- Each kind of test, and one more test of a condition.
use Rattle.std.proofs.Common.{rules, ◌++◌, map, sym, ap, ◌∙◌}
use Rattle.std.proofs.lemmas.Result.{IfOk-weaker, on_ok_weaker}
use Rattle.homeo_syntax.specs.declared.low.LTest.{the_lemmas}
use Rattle.homeo_plan.specs.PlanView.{plain_atom}
use Rattle.homeo_form.specs.Standing.{forms_of}
use Rattle.homeo_linear.proofs.Keeping.{not_can, sides_can, true_passes, true_kept, not_passes, not_kept, comparison_passes, comparison_kept, test_step, none_asked, one_more_asked, all_asked, held_kept}
use Rattle.homeo_linear.proofs.conditions.+conditions.Goals as goal

pub test-condition-requires : goal.test-condition-requires
test-condition-requires t c =
    (search (rules, the_lemmas), not_can (forms_of c.args.standing.now) c.args.t.now c.in-Not.c c.in-Not.is c.requires)

pub test-comparison-requires : goal.test-comparison-requires
test-comparison-requires t c =
    sides_can (forms_of c.args.standing.now) c.args.t.now c.in-Compare.op c.in-Compare.left c.in-Compare.right c.in-Compare.is c.requires

pub test-returns-in-True-clause-holds : goal.test-returns-in-True-clause-holds
test-returns-in-True-clause-holds t c = true_passes (forms_of c.args.standing.now) c.args.t.now c.in-True.is

pub test-returns-in-True-clause-atoms : goal.test-returns-in-True-clause-atoms
test-returns-in-True-clause-atoms t c =
    true_kept (forms_of c.args.standing.now) c.args.t.now (map plain_atom c.args.atoms.now.items) c.in-True.is

pub test-returns-in_ok-holds-in-Not-clause-holds : goal.test-returns-in_ok-holds-in-Not-clause-holds
test-returns-in_ok-holds-in-Not-clause-holds t c =
    not_passes (forms_of c.args.standing.now) c.args.t.now c.in-Not.c c.in_ok-holds-in-Not.holds c.in-Not.is c.in_ok-holds-in-Not.ensures.holds

pub test-returns-in_ok-holds-in-Not-clause-atoms : goal.test-returns-in_ok-holds-in-Not-clause-atoms
test-returns-in_ok-holds-in-Not-clause-atoms t c =
    c.in_ok-holds-in-Not.ensures.atoms
    ∙ ap (λ l. map plain_atom c.args.atoms.now.items ++ l) (not_kept (forms_of c.args.standing.now) c.args.t.now c.in-Not.c c.in-Not.is)

pub test-returns-in-Compare-clause-holds : goal.test-returns-in-Compare-clause-holds
test-returns-in-Compare-clause-holds t c =
    IfOk-weaker c.comparison.result _ _
    (λ b h. h ∙ comparison_passes (forms_of c.args.standing.now) c.args.t.now c.in-Compare.op c.in-Compare.left c.in-Compare.right c.in-Compare.is)
    c.comparison.ensures.holds

pub test-returns-in-Compare-clause-atoms : goal.test-returns-in-Compare-clause-atoms
test-returns-in-Compare-clause-atoms t c =
    on_ok_weaker c.comparison.result
    (λ h. h ∙ ap (λ l. map plain_atom c.args.atoms.now.items ++ l)
    (comparison_kept (forms_of c.args.standing.now) c.args.t.now c.in-Compare.op c.in-Compare.left c.in-Compare.right c.in-Compare.is))
    c.comparison.ensures.atoms

pub tests-test-requires : goal.tests-test-requires
tests-test-requires t c = (search (rules, the_lemmas), c.in-Some.ensures.small _ c.index-ts-place.is)

pub tests-returns-in-Some-clause-holds : goal.tests-returns-in-Some-clause-holds
tests-returns-in-Some-clause-holds t c = IfOk-weaker c.test.result _ _ (λ b h. h ∙ c.in-Some.ensures.holds _ c.index-ts-place.is) c.test.ensures.holds

pub tests-returns-in-Some-clause-atoms : goal.tests-returns-in-Some-clause-atoms
tests-returns-in-Some-clause-atoms t c =
    on_ok_weaker c.test.result (λ h. h ∙ ap (λ l. map plain_atom c.args.atoms.now.items ++ l) (c.in-Some.ensures.kept _ c.index-ts-place.is)) c.test.ensures.atoms

pub tests-test-requires-in-loop-t : goal.tests-test-requires-in-loop-t
tests-test-requires-in-loop-t t c =
    (search (rules, the_lemmas), (test_step c.args.ts.now c.loop-t.t-index c.t-item.result c.loop-t-test.true c.t-item.is c.loop-t.invariant.small).first)

pub tests-loop-t-init : goal.tests-loop-t-init
tests-loop-t-init t c = none_asked (forms_of c.args.standing.now) c.args.ts.now _ c.requires c.in_default.ensures

pub tests-loop-t-preserved : goal.tests-loop-t-preserved
tests-loop-t-preserved t c =
    one_more_asked (test_step c.args.ts.now c.loop-t.t-index c.t-item.result c.loop-t-test.true c.t-item.is c.loop-t.invariant.small) c.loop-t.invariant
    c.in_ok-test.ensures.atoms

pub tests-returns-clause-holds : goal.tests-returns-clause-holds
tests-returns-clause-holds t c = sym c.in_default.ensures

pub tests-returns-clause-atoms : goal.tests-returns-clause-atoms
tests-returns-clause-atoms t c =
    all_asked c.loop-t-test.false c.loop-t.invariant
    ∙ ap (λ l. map plain_atom c.args.atoms.now.items ++ l) (held_kept (forms_of c.args.standing.now) c.args.ts.now c.in_default.ensures)
