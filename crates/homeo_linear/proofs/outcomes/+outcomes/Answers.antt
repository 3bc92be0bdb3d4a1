-- Each kind of test, and one more test of a condition.
use Rattle.std.proofs.Common.{rules, not, sym, ap, ap₂, ◌∙◌}
use Rattle.std.specs.Int.{w128}
use Rattle.std.proofs.lemmas.Int.{to_z-of_z}
use Rattle.homeo_syntax.specs.declared.low.LTest.{the_lemmas}
use Rattle.homeo_meaning.specs.Meaning.{compared}
use Rattle.homeo_form.specs.Standing.{forms_of}
use Rattle.homeo_linear.proofs.Keeping.{not_can, sides_can, true_passes, not_passes, comparison_passes, test_step, none_passed, one_more_passed, all_passed, first_fails, first_decides}
use Rattle.homeo_linear.proofs.outcomes.+outcomes.Goals as goal

pub passes-holds-requires : goal.passes-holds-requires
passes-holds-requires t c =
    (search (rules, the_lemmas), not_can (forms_of c.args.standing.now) c.args.t.now c.in-Not.c c.in-Not.is c.requires)

pub passes-constant-requires : goal.passes-constant-requires
passes-constant-requires t c =
    (sides_can (forms_of c.args.standing.now) c.args.t.now c.in-Compare.op c.in-Compare.left c.in-Compare.right c.in-Compare.is c.requires).left

pub passes-constant-requires-in-Compare : goal.passes-constant-requires-in-Compare
passes-constant-requires-in-Compare t c =
    (sides_can (forms_of c.args.standing.now) c.args.t.now c.in-Compare.op c.in-Compare.left c.in-Compare.right c.in-Compare.is c.requires).right

pub passes-returns-in-True : goal.passes-returns-in-True
passes-returns-in-True t c = true_passes (forms_of c.args.standing.now) c.args.t.now c.in-True.is

pub passes-returns-in-Not : goal.passes-returns-in-Not
passes-returns-in-Not t c =
    not_passes (forms_of c.args.standing.now) c.args.t.now c.in-Not.c c.holds.result c.in-Not.is c.holds.ensures

pub passes-returns-in-Compare : goal.passes-returns-in-Compare
passes-returns-in-Compare t c =
    c.compared.ensures
    ∙ ap₂ (compared c.in-Compare.op) (to_z-of_z w128 c.constant.result (search rules) ∙ c.constant.ensures)
    (to_z-of_z w128 c.constant-in-Compare.result (search rules) ∙ c.constant-in-Compare.ensures)
    ∙ comparison_passes (forms_of c.args.standing.now) c.args.t.now c.in-Compare.op c.in-Compare.left c.in-Compare.right c.in-Compare.is

pub failing-passes-requires : goal.failing-passes-requires
failing-passes-requires t c =
    (search (rules, the_lemmas), (test_step c.args.ts.now c.loop-place.place c.index-ts-place.result c.loop-place-test.true c.index-ts-place.is c.loop-place.invariant.small).first)

pub failing-loop-place-init : goal.failing-loop-place-init
failing-loop-place-init t c = none_passed (forms_of c.args.standing.now) c.args.ts.now c.requires

pub failing-returns-then-not-passes-clause-some : goal.failing-returns-then-not-passes-clause-some
failing-returns-then-not-passes-clause-some t c =
    let k = test_step c.args.ts.now c.loop-place.place c.index-ts-place.result c.loop-place-test.true c.index-ts-place.is c.loop-place.invariant.small in
    ap not (first_fails k c.loop-place.invariant c.passes.result c.if-not-passes.true c.passes.ensures)

pub failing-returns-then-not-passes-clause-place : goal.failing-returns-then-not-passes-clause-place
failing-returns-then-not-passes-clause-place t c =
    let k = test_step c.args.ts.now c.loop-place.place c.index-ts-place.result c.loop-place-test.true c.index-ts-place.is c.loop-place.invariant.small in
    first_decides k c.loop-place.invariant c.passes.result c.if-not-passes.true c.passes.ensures c.loop-place-test.true c.index-ts-place.is

pub failing-loop-place-preserved : goal.failing-loop-place-preserved
failing-loop-place-preserved t c =
    one_more_passed (test_step c.args.ts.now c.loop-place.place c.index-ts-place.result c.loop-place-test.true c.index-ts-place.is c.loop-place.invariant.small)
    c.loop-place.invariant c.passes.result c.if-not-passes.false c.passes.ensures

pub failing-returns-clause-some : goal.failing-returns-clause-some
failing-returns-clause-some t c = sym (ap not (all_passed c.loop-place-test.false c.loop-place.invariant))

pub failing-returns-clause-place : goal.failing-returns-clause-place
failing-returns-clause-place t c = all_passed c.loop-place-test.false c.loop-place.invariant
