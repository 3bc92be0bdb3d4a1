-- A number, or a negative.
use Rattle.std.proofs.Common.{rules, refl, ◌∙◌}
use Rattle.homeo_meaning.proofs.Numbers.{kept_is}
use Rattle.homeo_form.proofs.Widths.{kept_is as kept_wide}
use Rattle.homeo_form.proofs.ItemForms.{number_made, neg_number}
use Rattle.homeo_form.proofs.items.number_of.Goals as goal

pub returns-in-Literal : goal.returns-in-Literal
returns-in-Literal c =
    number_made c.args.e.now c.in-Literal.n _ c.in-Literal.is
    (kept_wide c.widened.result _ (search rules) (c.widened.ensures ∙ kept_is c.in-Literal.n _ (search rules) refl))

pub returns-in-Neg : goal.returns-in-Neg
returns-in-Neg c =
    neg_number c.number_negated.result c.args.e.now c.in-Neg.part c.deref.result.now c.in-Neg.is c.deref.ensures c.number_negated.ensures
