-- What stands at a place, a number, or a negative.
use Rattle.std.proofs.Common.{rules, refl, ◌∙◌}
use Rattle.homeo_meaning.proofs.Numbers.{kept_is}
use Rattle.homeo_form.proofs.Widths.{kept_is as kept_wide}
use Rattle.homeo_form.proofs.ItemForms.{number_made, temp_made, read_made, neg_item}
use Rattle.homeo_form.proofs.items.item_of.Goals as goal

pub returns-in-Literal : goal.returns-in-Literal
returns-in-Literal c =
    number_made c.args.e.now c.in-Literal.n _ c.in-Literal.is
    (kept_wide c.widened.result _ (search rules) (c.widened.ensures ∙ kept_is c.in-Literal.n _ (search rules) refl))

pub returns-in-Temp : goal.returns-in-Temp
returns-in-Temp c = temp_made c.args.e.now c.in-Temp.t c.place_of_temp.result c.in-Temp.is c.place_of_temp.ensures

pub returns-in-Read : goal.returns-in-Read
returns-in-Read c = read_made c.args.e.now c.in-Read.x c.place_of.result c.in-Read.is c.place_of.ensures

pub returns-in-Neg : goal.returns-in-Neg
returns-in-Neg c = neg_item c.negated.result c.args.e.now c.in-Neg.part c.deref.result.now c.in-Neg.is c.deref.ensures c.negated.ensures
