-- What stands at a place with the number, or the form with the number added.
use Rattle.std.proofs.Common.{rules, refl, sym, ap₂, ◌∙◌, subst}
use Rattle.std.proofs.lemmas.Result.{IfOk-weaker}
use Rattle.homeo_syntax.specs.LowView.{plain_lexpr}
use Rattle.homeo_meaning.specs.Small.{IsSmall}
use Rattle.homeo_plan.specs.Limit.{form_limit}
use Rattle.homeo_plan.specs.Linear.{Linear, constant_form, add_forms}
use Rattle.homeo_form.specs.Standing.{forms_of}
use Rattle.homeo_form.specs.inner.Order.{IsInOrder}
use Rattle.homeo_plan.proofs.FormNumbers.{small_form}
use Rattle.homeo_form.proofs.Widths.{kept_is}
use Rattle.homeo_form.proofs.expressions.beside.Goals as goal

pub form_beside-requires-clause-place_small : goal.form_beside-requires-clause-place_small
form_beside-requires-clause-place_small c = c.in-Some.ensures.small (forms_of c.args.standing.now) c.requires.expression

pub plus_number-requires-clause-small : goal.plus_number-requires-clause-small
plus_number-requires-clause-small c =
    subst (λ (a : Linear). IsSmall form_limit a.constant) (sym c.in_ok-whole.ensures)
    (small_form (IsSmall form_limit) (forms_of c.args.standing.now) (plain_lexpr c.args.e.now) c.requires.expression).constant

pub returns-in-Some : goal.returns-in-Some
returns-in-Some c =
    let made = c.in-Some.ensures.made (forms_of c.args.standing.now) in
    IfOk-weaker c.form_beside.result _ _
    (λ r h. (h ∙ ap₂ (λ n a. add_forms a (constant_form n)) (kept_is c.args.n _ (search rules) refl) (sym made), subst IsInOrder (sym made) c.form_beside.ensures.order))
    c.form_beside.ensures.last

pub returns : goal.returns
returns c = (
  c.plus_number.ensures.last ∙ ap₂ (λ n a. add_forms a (constant_form n)) (kept_is c.args.n _ (search rules) refl) c.in_ok-whole.ensures,
  subst IsInOrder c.in_ok-whole.ensures c.in_order.ensures,
)
