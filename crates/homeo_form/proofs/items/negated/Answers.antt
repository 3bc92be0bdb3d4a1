-- What stands at a place, with its sign turned.
use Rattle.std.proofs.Common.{rules, negsuc, ◌*ℤ◌, refl, ap, ◌∙◌}
use Rattle.homeo_syntax.specs.LowView.{plain_lexpr}
use Rattle.homeo_meaning.proofs.Numbers.{kept_is}
use Rattle.homeo_form.proofs.Widths.{kept_is as kept_wide}
use Rattle.homeo_form.proofs.ItemForms.{negative_made, temp_made, read_made, negated_made}
use Rattle.homeo_form.proofs.items.negated.Goals as goal

pub returns-in-Literal : goal.returns-in-Literal
returns-in-Literal c =
    negative_made c.args.e.now c.in-Literal.n _ c.in-Literal.is
    (kept_wide c.negative.result _ (search rules) (c.negative.ensures ∙ ap (λ n. negsuc 0 *ℤ n) (kept_is c.in-Literal.n _ (search rules) refl)))

pub returns-in-Temp : goal.returns-in-Temp
returns-in-Temp c =
    negated_made (plain_lexpr c.args.e.now) c.place_of_temp.result (temp_made c.args.e.now c.in-Temp.t c.place_of_temp.result c.in-Temp.is c.place_of_temp.ensures)

pub returns-in-Read : goal.returns-in-Read
returns-in-Read c =
    negated_made (plain_lexpr c.args.e.now) c.place_of.result (read_made c.args.e.now c.in-Read.x c.place_of.result c.in-Read.is c.place_of.ensures)
