-- A number, what is read, or the constant made from the parts.
use Rattle.std.proofs.Common.{rules, refl, ap, ◌∙◌, ℤ}
use Rattle.homeo_meaning.proofs.Numbers.{kept_is}
use Rattle.homeo_plan.specs.Key.{definitions as plan_definitions}
use Rattle.homeo_plan.specs.Linear.{Linear, constant_form}
use Rattle.homeo_form.specs.Standing.{forms_of}
use Rattle.homeo_form.proofs.FormSteps.{literal_form, read_form}
use Rattle.homeo_form.proofs.Widths.{kept_is as kept_wide}
use Rattle.homeo_form.proofs.constants.constant.Goals as goal

abbrev constant_of : Linear → ℤ
constant_of a = a.constant

pub returns-in-Literal : goal.returns-in-Literal
unfolding plan_definitions
returns-in-Literal c =
    kept_wide c.widened.result _ (search rules)
    (c.widened.ensures ∙ kept_is c.in-Literal.n _ (search rules) refl
    ∙ ap constant_of (literal_form (forms_of c.args.standing.now) c.args.e.now c.in-Literal.n (constant_form c.in-Literal.n) c.in-Literal.is refl))

pub returns-in-Read : goal.returns-in-Read
returns-in-Read c =
    kept_wide c.constant_at.result _ (search rules)
    (c.constant_at.ensures ∙ ap constant_of (read_form (forms_of c.args.standing.now) c.args.e.now c.in-Read.x _ _ c.in-Read.is c.place_of.ensures refl))
