-- The sum of both.
use Rattle.std.proofs.Common.{rules, refl, ap, ◌∙◌}
use Rattle.std.proofs.lemmas.Result.{IfOk-weaker}
use Rattle.homeo_plan.specs.Linear.{Linear, add_forms, constant_form}
use Rattle.homeo_form.proofs.Widths.{kept_is}
use Rattle.homeo_form.proofs.FormParts.{pure_form}
use Rattle.homeo_form.proofs.form.Form.plus.Goals as goal

pub returns-then-is_number : goal.returns-then-is_number
returns-then-is_number c =
    c.plus_number.ensures.first
    ∙ ap (λ n. add_forms (constant_form n) c.args.self) (kept_is c.constant.result _ (search rules) refl ∙ c.constant.ensures)
    ∙ ap (λ (b : Linear). add_forms b c.args.self) (pure_form c.args.other.now c.if-is_number.ensures)

pub returns : goal.returns
returns c =
    IfOk-weaker c.into_form.result _ _ (λ f h. h ∙ c.in_ok-put.ensures ∙ ap (add_forms c.args.other.now) c.of-total.ensures) c.into_form.ensures
