-- Each kind of expression, and one more term or factor.
use Rattle.std.proofs.Common.{rules, pos, sym, ap, ◌∙◌, subst, refl}
use Rattle.std.proofs.lemmas.Result.{IfOk-weaker}
use Rattle.homeo_syntax.specs.LowView.{plain_lexpr}
use Rattle.homeo_syntax.specs.declared.low.LExpr.{the_lemmas}
use Rattle.homeo_meaning.proofs.Numbers.{kept_is}
use Rattle.homeo_meaning.specs.Small.{IsSmall}
use Rattle.homeo_plan.specs.FormSizes.{Numbers}
use Rattle.homeo_plan.specs.Linear.{constant_form, add_forms}
use Rattle.homeo_plan.specs.Limit.{form_limit}
use Rattle.homeo_split.specs.Places.{plain_place}
use Rattle.homeo_form.specs.Standing.{forms_of}
use Rattle.homeo_form.proofs.Folds.{sums, products, step, step_next, stop}
use Rattle.homeo_form.proofs.FormSteps.{sum_can, neg_small, literal_form, temp_form, read_form, sum_is_form, product_is_form, neg_form}
use Rattle.homeo_form.proofs.ItemForms.{item_read, item_negated, negated_small, item_number, number_small}
use Rattle.homeo_form.proofs.Widths.{kept_is as kept_wide}
use Rattle.homeo_form.proofs.expressions.+expressions.Goals as goal
use Rattle.homeo_form.proofs.expressions.+expressions.Goals.{sum-in-Read+in_ok-total-in-Read, sum-in-Negated+in_ok-total-in-Negated, sum-in-Number, sum-in-Other+in_ok-part-in-Other+in_ok-total-in-Other}

pub form-times-requires-clause-small : goal.form-times-requires-clause-small
form-times-requires-clause-small t c =
    neg_small (forms_of c.args.standing.now) c.args.e.now c.in-Neg.e c.deref.result.now _ c.in-Neg.is c.deref.ensures c.in_ok-part-in-Neg.ensures c.requires

pub form-returns-in-Literal : goal.form-returns-in-Literal
form-returns-in-Literal t c =
    literal_form (forms_of c.args.standing.now) c.args.e.now c.in-Literal.n c.value.result c.in-Literal.is
    (c.value.ensures ∙ ap constant_form (kept_is c.in-Literal.n _ (search rules) refl))

pub form-returns-in-Temp : goal.form-returns-in-Temp
form-returns-in-Temp t c =
    IfOk-weaker c.form_at.result _ _
    (λ r h. temp_form (forms_of c.args.standing.now) c.args.e.now c.in-Temp.t _ r c.in-Temp.is c.place_of_temp.ensures h) c.form_at.ensures

pub form-returns-in-Read : goal.form-returns-in-Read
form-returns-in-Read t c =
    IfOk-weaker c.form_at-in-Read.result _ _
    (λ r h. read_form (forms_of c.args.standing.now) c.args.e.now c.in-Read.x _ r c.in-Read.is c.place_of.ensures h) c.form_at-in-Read.ensures

pub form-form_beside-requires-clause-place_small : goal.form-form_beside-requires-clause-place_small
form-form_beside-requires-clause-place_small t c =
    let f = forms_of c.args.standing.now in
    (c.in-Some.ensures.small f (sum_can f c.args.e.now c.in-Sum.es c.as_slice-es.result.now c.in-Sum.is c.as_slice-es.ensures c.requires)).0

pub form-form_beside-requires-clause-number_small : goal.form-form_beside-requires-clause-number_small
form-form_beside-requires-clause-number_small t c =
    let f = forms_of c.args.standing.now in
    subst (IsSmall form_limit) (sym (kept_wide c.in-Some.n _ (search rules) refl))
    (c.in-Some.ensures.small f (sum_can f c.args.e.now c.in-Sum.es c.as_slice-es.result.now c.in-Sum.is c.as_slice-es.ensures c.requires)).1

pub form-returns-in-Some : goal.form-returns-in-Some
form-returns-in-Some t c =
    let f = forms_of c.args.standing.now in
    IfOk-weaker c.form_beside.result _ _
    (λ r h. sum_is_form f c.args.e.now c.in-Sum.es c.as_slice-es.result.now r c.in-Sum.is c.as_slice-es.ensures
    (h ∙ ap (λ n. add_forms (constant_form n) (add_forms (f (plain_place c.in-Some.place)) (constant_form (pos 0)))) (kept_wide c.in-Some.n _ (search rules) refl)
    ∙ sym (c.in-Some.ensures.made f))) c.form_beside.ensures.sum

pub form-returns-in-None : goal.form-returns-in-None
form-returns-in-None t c =
    IfOk-weaker c.sum.result _ _
    (λ r h. sum_is_form (forms_of c.args.standing.now) c.args.e.now c.in-Sum.es c.as_slice-es.result.now r c.in-Sum.is c.as_slice-es.ensures h) c.sum.ensures

pub form-returns-in-Product : goal.form-returns-in-Product
form-returns-in-Product t c =
    IfOk-weaker c.product.result _ _
    (λ r h. product_is_form (forms_of c.args.standing.now) c.args.e.now c.in-Product.es c.as_slice.result.now r c.in-Product.is
    c.as_slice.ensures h) c.product.ensures

pub form-returns-in_ok-part-in-Neg : goal.form-returns-in_ok-part-in-Neg
form-returns-in_ok-part-in-Neg t c =
    IfOk-weaker c.times.result _ _
    (λ r h. neg_form (forms_of c.args.standing.now) c.args.e.now c.in-Neg.e c.deref.result.now _ r c.in-Neg.is c.deref.ensures
    c.in_ok-part-in-Neg.ensures h) c.times.ensures

pub product-form-requires : goal.product-form-requires
product-form-requires t c =
    (search (rules, the_lemmas), (step (products (forms_of c.args.standing.now)) c.args.es.now c.loop-e.e-index c.e-item.result c.loop-e-test.true c.e-item.is c.loop-e.invariant.small).first)

pub product-by-requires-clause-small : goal.product-by-requires-clause-small
product-by-requires-clause-small t c =
    (step (products (forms_of c.args.standing.now)) c.args.es.now c.loop-e.e-index c.e-item.result c.loop-e-test.true c.e-item.is c.loop-e.invariant.small).so_far

pub product-by-requires-clause-other_small : goal.product-by-requires-clause-other_small
product-by-requires-clause-other_small t c =
    subst (Numbers (IsSmall form_limit)) (sym c.in_ok-part.ensures)
    (step (products (forms_of c.args.standing.now)) c.args.es.now c.loop-e.e-index c.e-item.result c.loop-e-test.true c.e-item.is c.loop-e.invariant.small).small

pub product-loop-e-preserved : goal.product-loop-e-preserved
product-loop-e-preserved t c =
    let k = step (products (forms_of c.args.standing.now)) c.args.es.now c.loop-e.e-index c.e-item.result c.loop-e-test.true c.e-item.is c.loop-e.invariant.small in
    let n = step_next (products (forms_of c.args.standing.now)) k c.in_ok-part.ensures c.in_ok-total.ensures in
    record { small = n.0; left = n.1 ∙ c.loop-e.invariant.left }

pub product-returns : goal.product-returns
product-returns t c = stop (products (forms_of c.args.standing.now)) _ c.args.es.now c.loop-e.e-index c.loop-e-test.false ∙ c.loop-e.invariant.left

pub sum-form-requires : goal.sum-form-requires
sum-form-requires t c =
    (search (rules, the_lemmas), (step (sums (forms_of c.args.standing.now)) c.args.es.now c.loop-e.e-index c.e-item.result c.loop-e-test.true c.e-item.is c.loop-e.invariant.small).first)

pub sum-add_at-requires-clause-small : goal.sum-add_at-requires-clause-small
sum-add_at-requires-clause-small t c =
    (step (sums (forms_of c.args.standing.now)) c.args.es.now c.loop-e.e-index c.e-item.result c.loop-e-test.true c.e-item.is c.loop-e.invariant.small).so_far

pub sum-add_at-requires-clause-place_small : goal.sum-add_at-requires-clause-place_small
sum-add_at-requires-clause-place_small t c =
    let k = step (sums (forms_of c.args.standing.now)) c.args.es.now c.loop-e.e-index c.e-item.result c.loop-e-test.true c.e-item.is c.loop-e.invariant.small in
    (item_read c.item_of.result c.in-Read.place (plain_lexpr c.e-item.result) c.in-Read.is c.item_of.ensures).small (forms_of c.args.standing.now) k.first

pub sum-subtract_at-requires-clause-small : goal.sum-subtract_at-requires-clause-small
sum-subtract_at-requires-clause-small t c =
    (step (sums (forms_of c.args.standing.now)) c.args.es.now c.loop-e.e-index c.e-item.result c.loop-e-test.true c.e-item.is c.loop-e.invariant.small).so_far

pub sum-subtract_at-requires-clause-place_small : goal.sum-subtract_at-requires-clause-place_small
sum-subtract_at-requires-clause-place_small t c =
    let k = step (sums (forms_of c.args.standing.now)) c.args.es.now c.loop-e.e-index c.e-item.result c.loop-e-test.true c.e-item.is c.loop-e.invariant.small in
    (item_negated c.item_of.result c.in-Negated.place (plain_lexpr c.e-item.result) c.in-Negated.is c.item_of.ensures).small (forms_of c.args.standing.now) k.first

pub sum-subtract_at-requires-clause-negated_small : goal.sum-subtract_at-requires-clause-negated_small
sum-subtract_at-requires-clause-negated_small t c =
    let k = step (sums (forms_of c.args.standing.now)) c.args.es.now c.loop-e.e-index c.e-item.result c.loop-e-test.true c.e-item.is c.loop-e.invariant.small in
    negated_small (forms_of c.args.standing.now) (item_negated c.item_of.result c.in-Negated.place (plain_lexpr c.e-item.result) c.in-Negated.is c.item_of.ensures) k.first

pub sum-plus_number-requires-clause-small : goal.sum-plus_number-requires-clause-small
sum-plus_number-requires-clause-small t c =
    (step (sums (forms_of c.args.standing.now)) c.args.es.now c.loop-e.e-index c.e-item.result c.loop-e-test.true c.e-item.is c.loop-e.invariant.small).so_far

pub sum-plus_number-requires-clause-number_small : goal.sum-plus_number-requires-clause-number_small
sum-plus_number-requires-clause-number_small t c =
    let f = forms_of c.args.standing.now in
    let k = step (sums (forms_of c.args.standing.now)) c.args.es.now c.loop-e.e-index c.e-item.result c.loop-e-test.true c.e-item.is c.loop-e.invariant.small in
    subst (IsSmall form_limit) (sym (kept_wide c.in-Number.n _ (search rules) refl))
    (number_small f (plain_lexpr c.e-item.result) c.in-Number.n (item_number c.item_of.result c.in-Number.n (plain_lexpr c.e-item.result) c.in-Number.is c.item_of.ensures f) k.first)

pub sum-plus-requires-clause-small : goal.sum-plus-requires-clause-small
sum-plus-requires-clause-small t c =
    (step (sums (forms_of c.args.standing.now)) c.args.es.now c.loop-e.e-index c.e-item.result c.loop-e-test.true c.e-item.is c.loop-e.invariant.small).so_far

pub sum-plus-requires-clause-form_small : goal.sum-plus-requires-clause-form_small
sum-plus-requires-clause-form_small t c =
    subst (Numbers (IsSmall form_limit)) (sym c.in_ok-part-in-Other.ensures)
    (step (sums (forms_of c.args.standing.now)) c.args.es.now c.loop-e.e-index c.e-item.result c.loop-e-test.true c.e-item.is c.loop-e.invariant.small).small

pub sum-loop-e-preserved : goal.sum-loop-e-preserved
sum-loop-e-preserved t c =
    let f = forms_of c.args.standing.now in
    let e = plain_lexpr c.e-item.result in
    let k = step (sums (forms_of c.args.standing.now)) c.args.es.now c.loop-e.e-index c.e-item.result c.loop-e-test.true c.e-item.is c.loop-e.invariant.small in
    elim c.match-item_of.branch [
      | sum-in-Read+in_ok-total-in-Read w ↦
          let m = item_read c.item_of.result w.in-Read.place e w.in-Read.is c.item_of.ensures in
          let n = step_next (sums (forms_of c.args.standing.now)) k (sym (m.made f)) (w.total-is ∙ w.in_ok-total-in-Read.ensures) in
          record { small = n.0; left = n.1 ∙ c.loop-e.invariant.left }
      | sum-in-Negated+in_ok-total-in-Negated w ↦
          let m = item_negated c.item_of.result w.in-Negated.place e w.in-Negated.is c.item_of.ensures in
          let n = step_next (sums (forms_of c.args.standing.now)) k (sym (m.made f)) (w.total-is ∙ w.in_ok-total-in-Negated.ensures) in
          record { small = n.0; left = n.1 ∙ c.loop-e.invariant.left }
      | sum-in-Number w ↦
          let m = item_number c.item_of.result w.in-Number.n e w.in-Number.is c.item_of.ensures f in
          let n = step_next (sums (forms_of c.args.standing.now)) k (sym m) (w.total-is ∙ w.plus_number.ensures ∙ ap (λ z. add_forms (constant_form z) c.loop-e.total) (kept_wide w.in-Number.n _ (search rules) refl)) in
          record { small = n.0; left = n.1 ∙ c.loop-e.invariant.left }
      | sum-in-Other+in_ok-part-in-Other+in_ok-total-in-Other w ↦
          let n = step_next (sums (forms_of c.args.standing.now)) k w.in_ok-part-in-Other.ensures (w.total-is ∙ w.in_ok-total-in-Other.ensures) in
          record { small = n.0; left = n.1 ∙ c.loop-e.invariant.left }
    ]

pub sum-returns : goal.sum-returns
sum-returns t c =
    IfOk-weaker c.into_form.result _ _
    (λ f h. h ∙ stop (sums (forms_of c.args.standing.now)) _ c.args.es.now c.loop-e.e-index c.loop-e-test.false ∙ c.loop-e.invariant.left) c.into_form.ensures
