-- A number less a form, a form less a number, or a form less a form.
use Rattle.std.proofs.Common.{rules, negsuc, refl, sym, ap, ap₂, ◌∙◌, subst}
use Rattle.std.proofs.lemmas.Result.{IfOk-weaker}
use Rattle.homeo_syntax.specs.LowView.{plain_lexpr}
use Rattle.homeo_meaning.specs.Small.{IsSmall}
use Rattle.homeo_plan.specs.FormSizes.{Numbers}
use Rattle.homeo_plan.specs.Limit.{form_limit}
use Rattle.homeo_plan.specs.Linear.{constant_form, add_forms, scale_form, form}
use Rattle.homeo_form.specs.Standing.{forms_of}
use Rattle.homeo_plan.proofs.FormNumbers.{small_form}
use Rattle.homeo_form.proofs.FormSteps.{one_is_small}
use Rattle.homeo_form.proofs.ItemForms.{number_small, negated_number, negated_number_small}
use Rattle.homeo_form.proofs.FormParts.{turned_back, number_in_order}
use Rattle.homeo_form.proofs.Widths.{kept_is, product_kept}
use Rattle.homeo_form.proofs.expressions.difference.Goals as goal

pub number_less-requires-clause-number : goal.number_less-requires-clause-number
number_less-requires-clause-number c =
    let f = forms_of c.args.standing.now in
    subst (IsSmall form_limit) (sym (kept_is c.in-Some.n _ (search rules) refl))
    (number_small f (plain_lexpr c.args.left.now) c.in-Some.n (c.in-Some.ensures f) c.requires.left)

pub multiplied-requires-clause-left : goal.multiplied-requires-clause-left
multiplied-requires-clause-left c = one_is_small

pub multiplied-requires-clause-right : goal.multiplied-requires-clause-right
multiplied-requires-clause-right c =
    let f = forms_of c.args.standing.now in
    subst (IsSmall form_limit) (sym (kept_is c.in-Some-number_of.n _ (search rules) refl))
    (number_small f (plain_lexpr c.args.right.now) c.in-Some-number_of.n (c.in-Some-number_of.ensures f) c.requires.right)

pub beside-requires-clause-number : goal.beside-requires-clause-number
beside-requires-clause-number c =
    let f = forms_of c.args.standing.now in
    let n = c.in-Some-number_of.n in
    subst (IsSmall form_limit) (sym (product_kept c.multiplied.result (negsuc 0) n (search rules) (search rules) (search rules) c.multiplied.ensures))
    (negated_number_small f (plain_lexpr c.args.right.now) n (c.in-Some-number_of.ensures f) c.requires.negated)

pub returns-in-Some-number_of-clause-there : goal.returns-in-Some-number_of-clause-there
returns-in-Some-number_of-clause-there c =
    let f = forms_of c.args.standing.now in
    let n = c.in-Some-number_of.n in
    IfOk-weaker c.beside.result _ _
    (λ r h. h.0 ∙ ap (add_forms (form f (plain_lexpr c.args.left.now)))
    (ap constant_form (product_kept c.multiplied.result (negsuc 0) n (search rules) (search rules) (search rules) c.multiplied.ensures)
    ∙ negated_number f (plain_lexpr c.args.right.now) n (c.in-Some-number_of.ensures f)))
    c.beside.ensures

pub returns-in-Some-clause-there : goal.returns-in-Some-clause-there
returns-in-Some-clause-there c =
    let f = forms_of c.args.standing.now in
    let n = c.in-Some.n in
    IfOk-weaker c.number_less.result _ _
    (λ r h. h.0 ∙ ap (λ a. add_forms a (scale_form (negsuc 0) (form f (plain_lexpr c.args.right.now))))
    (ap constant_form (kept_is n _ (search rules) refl) ∙ sym (c.in-Some.ensures f)))
    c.number_less.ensures

pub returns-in-Some-clause-back : goal.returns-in-Some-clause-back
returns-in-Some-clause-back c =
    let f = forms_of c.args.standing.now in
    let n = c.in-Some.n in
    let y = form f (plain_lexpr c.args.right.now) in
    IfOk-weaker c.number_less.result _ _
    (λ r h. turned_back (form f (plain_lexpr c.args.left.now)) y (constant_form n) y r
    (h.0 ∙ ap (λ a. add_forms a (scale_form (negsuc 0) y)) (ap constant_form (kept_is n _ (search rules) refl) ∙ sym (c.in-Some.ensures f)))
    (sym (c.in-Some.ensures f)) refl (number_in_order n) h.1)
    c.number_less.ensures

pub returns-in-Some-number_of-clause-back : goal.returns-in-Some-number_of-clause-back
returns-in-Some-number_of-clause-back c =
    let f = forms_of c.args.standing.now in
    let n = c.in-Some-number_of.n in
    let x = form f (plain_lexpr c.args.left.now) in
    IfOk-weaker c.beside.result _ _
    (λ r h. turned_back x (form f (plain_lexpr c.args.right.now)) x (constant_form n) r
    (h.0 ∙ ap (add_forms x)
    (ap constant_form (product_kept c.multiplied.result (negsuc 0) n (search rules) (search rules) (search rules) c.multiplied.ensures)
    ∙ negated_number f (plain_lexpr c.args.right.now) n (c.in-Some-number_of.ensures f)))
    refl (sym (c.in-Some-number_of.ensures f)) h.1 (number_in_order n))
    c.beside.ensures

pub minus-requires-clause-small : goal.minus-requires-clause-small
minus-requires-clause-small c =
    subst (Numbers (IsSmall form_limit)) (sym c.in_ok-whole.ensures)
    (small_form (IsSmall form_limit) (forms_of c.args.standing.now) (plain_lexpr c.args.left.now) c.requires.left)

pub minus-requires-clause-other_small : goal.minus-requires-clause-other_small
minus-requires-clause-other_small c =
    subst (Numbers (IsSmall form_limit)) (sym c.in_ok-less.ensures)
    (small_form (IsSmall form_limit) (forms_of c.args.standing.now) (plain_lexpr c.args.right.now) c.requires.right)

pub returns-clause-back : goal.returns-clause-back
returns-clause-back c =
    let f = forms_of c.args.standing.now in
    IfOk-weaker c.minus.result _ _
    (λ r h. turned_back (form f (plain_lexpr c.args.left.now)) (form f (plain_lexpr c.args.right.now)) c.in_ok-whole.whole c.in_ok-less.less r
    (h ∙ ap₂ (λ a b. add_forms a (scale_form (negsuc 0) b)) c.in_ok-whole.ensures c.in_ok-less.ensures) c.in_ok-whole.ensures c.in_ok-less.ensures
    c.in_order.ensures c.in_order-2.ensures) c.minus.ensures
