-- One that is a number, or neither.
use Rattle.std.proofs.Common.{rules, refl, ◌∙◌}
use Rattle.std.proofs.lemmas.Result.{IfOk-weaker}
use Rattle.homeo_form.proofs.Widths.{kept_is}
use Rattle.homeo_form.proofs.FormParts.{by_number, by_other, by_neither}
use Rattle.homeo_form.proofs.form.Form.by.Goals as goal

pub returns-then-is_number : goal.returns-then-is_number
returns-then-is_number c =
    IfOk-weaker c.times.result _ _
    (λ r h. h ∙ by_number c.args.self.now c.args.other.now _ c.self.inside.constant _ _ (kept_is c.self.inside.constant _ (search rules) refl) c.self.view_is
    c.if-is_number.ensures) c.times.ensures

pub returns-then-is_number-2 : goal.returns-then-is_number-2
returns-then-is_number-2 c =
    IfOk-weaker c.times-then-is_number-2.result _ _
    (λ r h. h ∙ by_other c.args.self.now c.args.other.now _ c.other.inside.constant _ _ (kept_is c.other.inside.constant _ (search rules) refl) c.other.view_is
    c.if-is_number.ensures c.if-is_number-2.ensures) c.times-then-is_number-2.ensures

pub returns-else-is_number-2 : goal.returns-else-is_number-2
returns-else-is_number-2 c =
    IfOk-weaker c.mixed_with.result _ _ (λ r h. h ∙ by_neither c.args.self.now c.args.other.now c.if-is_number.ensures c.if-is_number-2.ensures)
    c.mixed_with.ensures
