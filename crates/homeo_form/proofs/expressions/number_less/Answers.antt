-- The form with its sign turned, and the number added.
use Rattle.std.proofs.Common.{rules, negsuc, refl, sym, ap, ap₂, ◌∙◌, subst}
use Rattle.homeo_syntax.specs.LowView.{plain_lexpr}
use Rattle.homeo_meaning.specs.Small.{IsSmall}
use Rattle.homeo_plan.specs.FormSizes.{Numbers}
use Rattle.homeo_plan.specs.Limit.{form_limit}
use Rattle.homeo_plan.specs.Linear.{Linear, constant_form, add_forms, scale_form}
use Rattle.homeo_form.specs.Standing.{forms_of}
use Rattle.homeo_form.specs.inner.Order.{IsInOrder}
use Rattle.homeo_plan.proofs.FormNumbers.{small_form}
use Rattle.homeo_form.proofs.Widths.{kept_is}
use Rattle.homeo_form.proofs.expressions.number_less.Goals as goal

pub negated-requires : goal.negated-requires
negated-requires c = record {
  small = subst (Numbers (IsSmall form_limit)) (sym c.in_ok-less.ensures)
      (small_form (IsSmall form_limit) (forms_of c.args.standing.now) (plain_lexpr c.args.e.now) c.requires.expression);
}

pub plus_number-requires-clause-small : goal.plus_number-requires-clause-small
plus_number-requires-clause-small c =
    subst (λ (a : Linear). IsSmall form_limit a.constant) (sym (c.negated.ensures ∙ ap (scale_form (negsuc 0)) c.in_ok-less.ensures)) c.requires.negated.constant

pub returns : goal.returns
returns c = (
  c.plus_number.ensures.first
      ∙ ap₂ (λ n a. add_forms (constant_form n) a) (kept_is c.args.n _ (search rules) refl) (c.negated.ensures ∙ ap (scale_form (negsuc 0)) c.in_ok-less.ensures),
  subst IsInOrder c.in_ok-less.ensures c.in_order.ensures,
)
