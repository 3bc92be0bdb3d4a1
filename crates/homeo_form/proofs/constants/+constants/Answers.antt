-- Each kind of expression, and one more term or factor.
use Rattle.std.proofs.Common.{rules, refl, sym, ap, ap₂, ◌∙◌, subst, ℤ, negsuc, ◌+ℤ◌, ◌*ℤ◌}
use Rattle.std.proofs.Math.IntN.{+ℤ_idr}
use Rattle.homeo_syntax.specs.LowView.{plain_lexpr}
use Rattle.homeo_syntax.specs.declared.low.LExpr.{the_lemmas}
use Rattle.homeo_meaning.proofs.Numbers.{kept_is}
use Rattle.homeo_meaning.specs.Small.{IsSmall}
use Rattle.homeo_plan.specs.Key.{definitions as plan_definitions}
use Rattle.homeo_plan.specs.Limit.{form_limit}
use Rattle.homeo_plan.specs.Linear.{Linear, constant_form}
use Rattle.homeo_split.specs.Places.{plain_place}
use Rattle.homeo_form.specs.Standing.{forms_of}
use Rattle.homeo_form.specs.inner.Terms.{sum_limit}
use Rattle.homeo_form.proofs.Adding.{limit_wider}
use Rattle.homeo_plan.proofs.FormNumbers.{small_form}
use Rattle.homeo_form.proofs.Folds.{sums, products, step, constant_start, constant_more, constant_end}
use Rattle.homeo_form.proofs.FormSteps.{sum_can, neg_can, literal_form, temp_form, read_form, sum_is_form, product_is_form, neg_form}
use Rattle.homeo_form.proofs.ConstantSteps.{behind, sum_constant, product_constant}
use Rattle.homeo_form.proofs.Widths.{kept_is as kept_wide}
use Rattle.homeo_form.proofs.constants.+constants.Goals as goal

abbrev constant_of : Linear → ℤ
constant_of a = a.constant

pub constant_by_parts-multiplied-requires-clause-right : goal.constant_by_parts-multiplied-requires-clause-right
constant_by_parts-multiplied-requires-clause-right t c =
    let f = forms_of c.args.standing.now in
    subst (IsSmall form_limit) (sym (kept_wide c.constant_by_parts.result _ (search rules) c.constant_by_parts.ensures))
    (small_form (IsSmall form_limit) f (plain_lexpr c.deref.result.now) (neg_can f c.args.e.now c.in-Neg.e c.deref.result.now c.in-Neg.is c.deref.ensures c.requires)).constant

pub constant_by_parts-returns-in-Literal : goal.constant_by_parts-returns-in-Literal
unfolding plan_definitions
constant_by_parts-returns-in-Literal t c =
    kept_wide c.widened.result _ (search rules)
    (c.widened.ensures ∙ kept_is c.in-Literal.n _ (search rules) refl
    ∙ ap constant_of (literal_form (forms_of c.args.standing.now) c.args.e.now c.in-Literal.n (constant_form c.in-Literal.n) c.in-Literal.is refl))

pub constant_by_parts-returns-in-Temp : goal.constant_by_parts-returns-in-Temp
constant_by_parts-returns-in-Temp t c =
    kept_wide c.constant_at.result _ (search rules)
    (c.constant_at.ensures ∙ ap constant_of (temp_form (forms_of c.args.standing.now) c.args.e.now c.in-Temp.t _ _ c.in-Temp.is c.place_of_temp.ensures refl))

pub constant_by_parts-returns-in-Read : goal.constant_by_parts-returns-in-Read
constant_by_parts-returns-in-Read t c =
    kept_wide c.constant_at-in-Read.result _ (search rules)
    (c.constant_at-in-Read.ensures ∙ ap constant_of (read_form (forms_of c.args.standing.now) c.args.e.now c.in-Read.x _ _ c.in-Read.is c.place_of.ensures refl))

pub constant_by_parts-returns-in-None : goal.constant_by_parts-returns-in-None
constant_by_parts-returns-in-None t c =
    kept_wide c.constant_of_sum.result _ (search rules)
    (c.constant_of_sum.ensures
    ∙ ap constant_of (sum_is_form (forms_of c.args.standing.now) c.args.e.now c.in-Sum.es c.as_slice-es.result.now _ c.in-Sum.is c.as_slice-es.ensures refl))

pub constant_by_parts-added-requires-clause-left : goal.constant_by_parts-added-requires-clause-left
constant_by_parts-added-requires-clause-left t c =
    let f = forms_of c.args.standing.now in
    subst (IsSmall form_limit) (sym (kept_wide c.in-Some.n _ (search rules) refl))
    (c.in-Some.ensures.small f (sum_can f c.args.e.now c.in-Sum.es c.as_slice-es.result.now c.in-Sum.is c.as_slice-es.ensures c.requires)).1

pub constant_by_parts-added-requires-clause-right : goal.constant_by_parts-added-requires-clause-right
constant_by_parts-added-requires-clause-right t c =
    let f = forms_of c.args.standing.now in
    subst (IsSmall sum_limit) (sym (kept_wide c.constant_at-in-Some.result _ (search rules) c.constant_at-in-Some.ensures))
    (limit_wider _ (c.in-Some.ensures.small f (sum_can f c.args.e.now c.in-Sum.es c.as_slice-es.result.now c.in-Sum.is c.as_slice-es.ensures c.requires)).0.constant)

pub constant_by_parts-returns-in-Some : goal.constant_by_parts-returns-in-Some
unfolding plan_definitions
constant_by_parts-returns-in-Some t c =
    let f = forms_of c.args.standing.now in
    let here = (f (plain_place c.in-Some.place)).constant in
    kept_wide c.added.result _ (search rules)
    (c.added.ensures
    ∙ ap₂ (λ m n. m +ℤ n) (kept_wide c.in-Some.n _ (search rules) refl) (kept_wide c.constant_at-in-Some.result _ (search rules) c.constant_at-in-Some.ensures ∙ sym (+ℤ_idr here))
    ∙ ap constant_of (sum_is_form f c.args.e.now c.in-Sum.es c.as_slice-es.result.now _ c.in-Sum.is c.as_slice-es.ensures (sym (c.in-Some.ensures.made f))))

pub constant_by_parts-returns-in-Product : goal.constant_by_parts-returns-in-Product
constant_by_parts-returns-in-Product t c =
    kept_wide c.constant_of_product.result _ (search rules)
    (c.constant_of_product.ensures
    ∙ ap constant_of (product_is_form (forms_of c.args.standing.now) c.args.e.now c.in-Product.es c.as_slice.result.now _ c.in-Product.is c.as_slice.ensures refl))

pub constant_by_parts-returns-in-Neg : goal.constant_by_parts-returns-in-Neg
unfolding plan_definitions
constant_by_parts-returns-in-Neg t c =
    kept_wide c.multiplied.result _ (search rules)
    (c.multiplied.ensures ∙ ap (λ n. negsuc 0 *ℤ n) (kept_wide c.constant_by_parts.result _ (search rules) c.constant_by_parts.ensures)
    ∙ ap constant_of (neg_form (forms_of c.args.standing.now) c.args.e.now c.in-Neg.e c.deref.result.now _ _ c.in-Neg.is c.deref.ensures refl refl))

pub constant_of_sum-loop-e-init : goal.constant_of_sum-loop-e-init
unfolding plan_definitions
constant_of_sum-loop-e-init t c = constant_start (sums (forms_of c.args.standing.now)) _ _ refl c.requires

pub constant_of_sum-constant_by_parts-requires : goal.constant_of_sum-constant_by_parts-requires
constant_of_sum-constant_by_parts-requires t c =
    (search (rules, the_lemmas), (step (sums (forms_of c.args.standing.now)) c.args.es.now c.loop-e.e-index c.e-item.result c.loop-e-test.true c.e-item.is c.loop-e.invariant.small).first)

pub constant_of_sum-added-total-requires-clause-left : goal.constant_of_sum-added-total-requires-clause-left
constant_of_sum-added-total-requires-clause-left t c =
    subst (IsSmall form_limit) (sym (kept_wide c.constant_by_parts.result _ (search rules) c.constant_by_parts.ensures))
    (step (sums (forms_of c.args.standing.now)) c.args.es.now c.loop-e.e-index c.e-item.result c.loop-e-test.true c.e-item.is c.loop-e.invariant.small).small.constant

pub constant_of_sum-added-total-requires-clause-right : goal.constant_of_sum-added-total-requires-clause-right
constant_of_sum-added-total-requires-clause-right t c =
    subst (IsSmall sum_limit) (sym c.loop-e.invariant.constant)
    (limit_wider _ (step (sums (forms_of c.args.standing.now)) c.args.es.now c.loop-e.e-index c.e-item.result c.loop-e-test.true c.e-item.is c.loop-e.invariant.small).so_far.constant)

pub constant_of_sum-loop-e-preserved : goal.constant_of_sum-loop-e-preserved
constant_of_sum-loop-e-preserved t c =
    constant_more (sums (forms_of c.args.standing.now)) behind sum_constant _ _ _
    c.loop-e-test.true c.e-item.is c.loop-e.invariant (kept_wide c.constant_by_parts.result _ (search rules) c.constant_by_parts.ensures)
    (kept_wide c.added-total.result _ (search rules) c.added-total.ensures)

pub constant_of_sum-returns : goal.constant_of_sum-returns
constant_of_sum-returns t c = constant_end (sums (forms_of c.args.standing.now)) c.args.es.now c.loop-e.e-index _ c.loop-e-test.false c.loop-e.invariant

pub constant_of_product-loop-e-init : goal.constant_of_product-loop-e-init
unfolding plan_definitions
constant_of_product-loop-e-init t c = constant_start (products (forms_of c.args.standing.now)) _ _ refl c.requires

pub constant_of_product-constant_by_parts-requires : goal.constant_of_product-constant_by_parts-requires
constant_of_product-constant_by_parts-requires t c =
    (search (rules, the_lemmas), (step (products (forms_of c.args.standing.now)) c.args.es.now c.loop-e.e-index c.e-item.result c.loop-e-test.true c.e-item.is c.loop-e.invariant.small).first)

pub constant_of_product-multiplied-total-requires-clause-left : goal.constant_of_product-multiplied-total-requires-clause-left
constant_of_product-multiplied-total-requires-clause-left t c =
    subst (IsSmall form_limit) (sym c.loop-e.invariant.constant)
    (step (products (forms_of c.args.standing.now)) c.args.es.now c.loop-e.e-index c.e-item.result c.loop-e-test.true c.e-item.is c.loop-e.invariant.small).so_far.constant

pub constant_of_product-multiplied-total-requires-clause-right : goal.constant_of_product-multiplied-total-requires-clause-right
constant_of_product-multiplied-total-requires-clause-right t c =
    subst (IsSmall form_limit) (sym (kept_wide c.constant_by_parts.result _ (search rules) c.constant_by_parts.ensures))
    (step (products (forms_of c.args.standing.now)) c.args.es.now c.loop-e.e-index c.e-item.result c.loop-e-test.true c.e-item.is c.loop-e.invariant.small).small.constant

pub constant_of_product-loop-e-preserved : goal.constant_of_product-loop-e-preserved
constant_of_product-loop-e-preserved t c =
    constant_more (products (forms_of c.args.standing.now)) ◌*ℤ◌ product_constant _ _ _
    c.loop-e-test.true c.e-item.is c.loop-e.invariant (kept_wide c.constant_by_parts.result _ (search rules) c.constant_by_parts.ensures)
    (kept_wide c.multiplied-total.result _ (search rules) c.multiplied-total.ensures)

pub constant_of_product-returns : goal.constant_of_product-returns
constant_of_product-returns t c = constant_end (products (forms_of c.args.standing.now)) c.args.es.now c.loop-e.e-index _ c.loop-e-test.false c.loop-e.invariant
