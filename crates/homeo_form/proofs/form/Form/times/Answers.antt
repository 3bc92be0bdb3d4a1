-- The multiples of the parts.
use Rattle.std.proofs.Common.{rules, refl}
use Rattle.homeo_form.proofs.Widths.{kept_is, product_kept}
use Rattle.homeo_form.proofs.FormParts.{small_terms, multiple_in_order, multiple_is}
use Rattle.homeo_form.proofs.form.Form.times.Goals as goal

pub scaled-requires-clause-small : goal.scaled-requires-clause-small
scaled-requires-clause-small c =
    small_terms c.args.self.now _ c.self.inside.terms.items _ _ c.self.view_is c.as_slice.ensures.value c.requires.small

pub invariant_of-result : goal.invariant_of-result
invariant_of-result c =
    multiple_in_order _ c.self.inside.terms.items _ _ c.self.inside.mixed.items _ _ c.in_ok-scaled.ensures c.as_slice.ensures.value
    c.in_ok-copied.ensures c.as_slice-2.ensures.value c.self.invariant

pub returns : goal.returns
returns c =
    multiple_is c.args.self.now c.args.factor _ c.self.inside.constant _ c.self.inside.terms.items _ _ c.self.inside.mixed.items _ _
    c.self.view_is (product_kept c.multiplied.result c.args.factor c.self.inside.constant (search rules) c.ranges.factor (search rules) c.multiplied.ensures) (kept_is c.args.factor c.args.factor c.ranges.factor refl)
    c.in_ok-scaled.ensures c.as_slice.ensures.value c.in_ok-copied.ensures c.as_slice-2.ensures.value
