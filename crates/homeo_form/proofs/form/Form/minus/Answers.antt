-- The negative is a number, or a form.
use Rattle.std.proofs.Common.{rules, refl, sym, ap, ◌∙◌, subst}
use Rattle.std.proofs.lemmas.Result.{IfOk-weaker}
use Rattle.homeo_meaning.specs.Small.{IsSmall}
use Rattle.homeo_plan.specs.FormSizes.{Numbers}
use Rattle.homeo_plan.specs.Limit.{form_limit}
use Rattle.homeo_plan.specs.Linear.{Linear, add_forms, constant_form}
use Rattle.homeo_form.proofs.Widths.{kept_is}
use Rattle.homeo_form.proofs.FormParts.{pure_form}
use Rattle.homeo_form.proofs.form.Form.minus.Goals as goal

pub plus_number-requires-clause-number_small : goal.plus_number-requires-clause-number_small
plus_number-requires-clause-number_small c =
    subst (IsSmall form_limit) (sym (kept_is c.constant.result _ (search rules) (c.constant.ensures ∙ ap (λ (a : Linear). a.constant) c.negated-less.ensures)))
    c.requires.negated_small.constant

pub plus-requires-clause-small : goal.plus-requires-clause-small
plus-requires-clause-small c = subst (Numbers (IsSmall form_limit)) (sym c.negated-less.ensures) c.requires.negated_small

pub returns-then-is_number : goal.returns-then-is_number
returns-then-is_number c =
    c.plus_number.ensures.last
    ∙ ap (λ n. add_forms c.args.self (constant_form n)) (kept_is c.constant.result _ (search rules) refl ∙ c.constant.ensures)
    ∙ ap (add_forms c.args.self) (pure_form c.negated-less.result c.if-is_number.ensures ∙ c.negated-less.ensures)

pub returns : goal.returns
returns c = IfOk-weaker c.plus.result _ _ (λ f h. h ∙ ap (add_forms c.args.self) c.negated-less.ensures) c.plus.ensures
