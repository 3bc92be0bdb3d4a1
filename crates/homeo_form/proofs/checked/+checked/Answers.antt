-- Each kind of expression, and one more term or factor.
use Rattle.std.proofs.Common.{rules, sym, ap, ◌∙◌, subst, refl}
use Rattle.homeo_syntax.specs.Low as l
use Rattle.homeo_syntax.specs.LowView.{plain_lexpr}
use Rattle.homeo_syntax.proofs.LowViews.{low_Literal, low_Temp, low_Read, low_Neg}
use Rattle.homeo_meaning.proofs.Numbers.{kept_is}
use Rattle.homeo_meaning.specs.Small.{IsSmall}
use Rattle.homeo_plan.specs.FormSizes.{Numbers}
use Rattle.homeo_plan.specs.Limit.{form_limit}
use Rattle.homeo_plan.specs.Key.{definitions as plan_definitions}
use Rattle.homeo_plan.specs.Linear.{constant_form, add_forms}
use Rattle.homeo_form.specs.Standing.{forms_of}
use Rattle.homeo_form.proofs.FormSteps.{one_is_small}
use Rattle.homeo_form.proofs.CheckedSteps.{made, not_made, got, got_small, gone, literal_checked, stands_checked, neg_checked, neg_gone}
use Rattle.homeo_form.proofs.Folds.{sums, products, fold_start, part_gone, part_over, part_more, fold_end}
use Rattle.homeo_form.proofs.checked.+checked.Goals as goal

pub checked_form-times-requires-clause-factor : goal.checked_form-times-requires-clause-factor
checked_form-times-requires-clause-factor t c = one_is_small

pub checked_form-times-requires-clause-small : goal.checked_form-times-requires-clause-small
checked_form-times-requires-clause-small t c =
    got_small (forms_of c.args.standing.now) (plain_lexpr c.deref.result.now) c.in_ok-part-in-Neg.field-0 c.in-Some.part c.in-Some.is c.in_ok-part-in-Neg.ensures

pub checked_form-returns-in-Literal : goal.checked_form-returns-in-Literal
checked_form-returns-in-Literal t c =
    literal_checked (forms_of c.args.standing.now) (plain_lexpr c.args.e.now) c.in-Literal.n c.value.result c.kept.result
    (ap plain_lexpr c.in-Literal.is ∙ low_Literal c.in-Literal.n) (c.value.ensures ∙ ap constant_form (kept_is c.in-Literal.n _ (search rules) refl)) c.kept.ensures

pub checked_form-returns-in_ok-here-in-Temp : goal.checked_form-returns-in_ok-here-in-Temp
unfolding plan_definitions
checked_form-returns-in_ok-here-in-Temp t c =
    stands_checked (forms_of c.args.standing.now) (plain_lexpr c.args.e.now) (l.OfTemp c.in-Temp.t) c.in_ok-here-in-Temp.here _ c.kept-in-Temp.result
    (ap plain_lexpr c.in-Temp.is ∙ low_Temp c.in-Temp.t) (c.in_ok-here-in-Temp.ensures ∙ ap (forms_of c.args.standing.now) c.place_of_temp.ensures) (λ k. k) c.kept-in-Temp.ensures

pub checked_form-returns-in_ok-here-in-Read : goal.checked_form-returns-in_ok-here-in-Read
unfolding plan_definitions
checked_form-returns-in_ok-here-in-Read t c =
    stands_checked (forms_of c.args.standing.now) (plain_lexpr c.args.e.now) (l.Read c.in-Read.x) c.in_ok-here-in-Read.here _ c.kept-in-Read.result
    (ap plain_lexpr c.in-Read.is ∙ low_Read c.in-Read.x) (c.in_ok-here-in-Read.ensures ∙ ap (forms_of c.args.standing.now) c.place_of.ensures) (λ k. k) c.kept-in-Read.ensures

pub checked_form-returns-in_ok-negated-in-Some : goal.checked_form-returns-in_ok-negated-in-Some
checked_form-returns-in_ok-negated-in-Some t c =
    let f = forms_of c.args.standing.now in
    let g = got f (plain_lexpr c.deref.result.now) c.in_ok-part-in-Neg.field-0 c.in-Some.part c.in-Some.is c.in_ok-part-in-Neg.ensures in
    neg_checked f (plain_lexpr c.deref.result.now) (plain_lexpr c.args.e.now) c.in-Some.part c.in_ok-negated-in-Some.negated c.kept-in-Some.result
    (ap plain_lexpr c.in-Neg.is ∙ low_Neg c.in-Neg.e ∙ ap (λ x. l.Neg (plain_lexpr x)) (sym c.deref.ensures)) g.0 g.1 c.in_ok-negated-in-Some.ensures c.kept-in-Some.ensures

pub checked_form-returns-in-None : goal.checked_form-returns-in-None
checked_form-returns-in-None t c =
    let f = forms_of c.args.standing.now in
    neg_gone f (plain_lexpr c.deref.result.now) (plain_lexpr c.args.e.now)
    (ap plain_lexpr c.in-Neg.is ∙ low_Neg c.in-Neg.e ∙ ap (λ x. l.Neg (plain_lexpr x)) (sym c.deref.ensures))
    (gone f (plain_lexpr c.deref.result.now) c.in_ok-part-in-Neg.field-0 c.in-None.is c.in_ok-part-in-Neg.ensures)

pub checked_sum-loop-e-init : goal.checked_sum-loop-e-init
checked_sum-loop-e-init t c = fold_start (sums (forms_of c.args.standing.now)) c.args.es.now c.new-total.result c.new-total.ensures

pub checked_sum-returns-in_default : goal.checked_sum-returns-in_default
checked_sum-returns-in_default t c =
    let f = forms_of c.args.standing.now in
    part_gone (sums f) c.args.es.now c.loop-e.e-index c.loop-e.total c.e-item.result c.loop-e-test.true c.e-item.is c.loop-e.invariant
    (gone f (plain_lexpr c.e-item.result) c.in_ok-part.field-0 c.in_default.is c.in_ok-part.ensures)

pub checked_sum-plus-requires : goal.checked_sum-plus-requires
checked_sum-plus-requires t c =
    got_small (forms_of c.args.standing.now) (plain_lexpr c.e-item.result) c.in_ok-part.field-0 c.in-Some.part c.in-Some.is c.in_ok-part.ensures

pub checked_sum-returns-in_default-2 : goal.checked_sum-returns-in_default-2
checked_sum-returns-in_default-2 t c =
    let f = forms_of c.args.standing.now in
    let g = got f (plain_lexpr c.e-item.result) c.in_ok-part.field-0 c.in-Some.part c.in-Some.is c.in_ok-part.ensures in
    let more = add_forms c.in-Some.part c.loop-e.total in
    part_over (sums f) c.args.es.now c.loop-e.e-index c.loop-e.total c.e-item.result c.loop-e-test.true c.e-item.is c.loop-e.invariant c.in-Some.part more g.1 refl
    (not_made more c.in_ok-more.field-0 c.in_default-2.is c.in_ok-more.ensures)

pub checked_sum-loop-e-preserved : goal.checked_sum-loop-e-preserved
checked_sum-loop-e-preserved t c =
    let f = forms_of c.args.standing.now in
    let g = got f (plain_lexpr c.e-item.result) c.in_ok-part.field-0 c.in-Some.part c.in-Some.is c.in_ok-part.ensures in
    let m = made (add_forms c.in-Some.part c.loop-e.total) c.in-Some-2.more c.in_ok-more.field-0 c.in-Some-2.is c.in_ok-more.ensures in
    part_more (sums f) c.args.es.now c.loop-e.e-index c.loop-e.total c.e-item.result c.loop-e-test.true c.e-item.is c.loop-e.invariant c.in-Some.part c.in-Some-2.more g.1
    m.1 g.0 (subst (Numbers (IsSmall form_limit)) (sym m.1) m.0)

pub checked_sum-returns : goal.checked_sum-returns
checked_sum-returns t c =
    let f = forms_of c.args.standing.now in
    let e = fold_end (sums f) c.args.es.now c.loop-e.e-index c.loop-e.total c.loop-e-test.false c.loop-e.invariant in
    (e.0, c.in_ok-form.ensures ∙ e.1)

pub checked_product-loop-e-init : goal.checked_product-loop-e-init
checked_product-loop-e-init t c = fold_start (products (forms_of c.args.standing.now)) c.args.es.now c.number-total.result c.number-total.ensures

pub checked_product-returns-in_default : goal.checked_product-returns-in_default
checked_product-returns-in_default t c =
    let f = forms_of c.args.standing.now in
    part_gone (products f) c.args.es.now c.loop-e.e-index c.loop-e.total c.e-item.result c.loop-e-test.true c.e-item.is c.loop-e.invariant
    (gone f (plain_lexpr c.e-item.result) c.in_ok-part.field-0 c.in_default.is c.in_ok-part.ensures)

pub checked_product-by-requires-clause-small : goal.checked_product-by-requires-clause-small
checked_product-by-requires-clause-small t c = c.loop-e.invariant.small

pub checked_product-by-requires-clause-other_small : goal.checked_product-by-requires-clause-other_small
checked_product-by-requires-clause-other_small t c =
    got_small (forms_of c.args.standing.now) (plain_lexpr c.e-item.result) c.in_ok-part.field-0 c.in-Some.part c.in-Some.is c.in_ok-part.ensures

pub checked_product-returns-in_default-kept : goal.checked_product-returns-in_default-kept
checked_product-returns-in_default-kept t c =
    let f = forms_of c.args.standing.now in
    let g = got f (plain_lexpr c.e-item.result) c.in_ok-part.field-0 c.in-Some.part c.in-Some.is c.in_ok-part.ensures in
    part_over (products f) c.args.es.now c.loop-e.e-index c.loop-e.total c.e-item.result c.loop-e-test.true c.e-item.is c.loop-e.invariant c.in-Some.part c.in_ok-more.more g.1
    c.in_ok-more.ensures c.in_default-kept.ensures

pub checked_product-loop-e-preserved : goal.checked_product-loop-e-preserved
checked_product-loop-e-preserved t c =
    let f = forms_of c.args.standing.now in
    let g = got f (plain_lexpr c.e-item.result) c.in_ok-part.field-0 c.in-Some.part c.in-Some.is c.in_ok-part.ensures in
    part_more (products f) c.args.es.now c.loop-e.e-index c.loop-e.total c.e-item.result c.loop-e-test.true c.e-item.is c.loop-e.invariant c.in-Some.part c.in-Some-kept.more g.1
    (c.in-Some-kept.ensures.1 ∙ c.in_ok-more.ensures) g.0 (subst (Numbers (IsSmall form_limit)) (sym c.in-Some-kept.ensures.1) c.in-Some-kept.ensures.0)

pub checked_product-returns : goal.checked_product-returns
checked_product-returns t c = fold_end (products (forms_of c.args.standing.now)) c.args.es.now c.loop-e.e-index c.loop-e.total c.loop-e-test.false c.loop-e.invariant
