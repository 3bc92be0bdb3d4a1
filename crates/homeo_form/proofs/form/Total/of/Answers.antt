-- The form's terms and deltas are in order.
use Rattle.std.proofs.Common.{rules, refl}
use Rattle.homeo_form.proofs.Widths.{kept_is}
use Rattle.homeo_form.proofs.FormParts.{small_terms, total_of}
use Rattle.homeo_form.proofs.form.Total.of.Goals as goal

pub invariant_of-result : goal.invariant_of-result
invariant_of-result c = small_terms c.args.form c.form.inside.constant c.form.inside.terms.items _ c.form.inside.mixed.items c.form.view_is refl c.requires

pub returns : goal.returns
returns c =
    total_of c.args.form c.form.inside.constant _ c.form.inside.terms.items c.form.inside.mixed.items c.form.view_is
    (kept_is c.form.inside.constant _ (search rules) refl) c.form.invariant
