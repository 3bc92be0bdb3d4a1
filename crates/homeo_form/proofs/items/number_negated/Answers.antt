-- A negative.
use Rattle.std.proofs.Common.{rules, negsuc, ◌*ℤ◌, refl, ap, ◌∙◌}
use Rattle.homeo_meaning.proofs.Numbers.{kept_is}
use Rattle.homeo_form.proofs.Widths.{kept_is as kept_wide}
use Rattle.homeo_form.proofs.ItemForms.{negative_made}
use Rattle.homeo_form.proofs.items.number_negated.Goals as goal

pub returns-in-Literal : goal.returns-in-Literal
returns-in-Literal c =
    negative_made c.args.e.now c.in-Literal.n _ c.in-Literal.is
    (kept_wide c.negative.result _ (search rules) (c.negative.ensures ∙ ap (λ n. negsuc 0 *ℤ n) (kept_is c.in-Literal.n _ (search rules) refl)))
