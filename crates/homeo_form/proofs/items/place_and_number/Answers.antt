-- The first is what stands at the place, and the second the number.
use Rattle.std.proofs.Common.{rules, map, refl, sym, subst, arith}
use Rattle.std.proofs.lemmas.Bool.Decides.{nat_tests}
use Rattle.homeo_syntax.specs.LowView.{low_exprs, plain_lexpr}
use Rattle.homeo_form.specs.inner.Items.{IsPlaceAndNumber}
use Rattle.homeo_form.proofs.Widths.{kept_is}
use Rattle.homeo_form.proofs.ItemForms.{place_and_number}
use Rattle.homeo_form.proofs.items.place_and_number.Goals as goal

pub returns : goal.returns
returns c =
    subst (λ n. IsPlaceAndNumber c.in_ok-place.place n (low_exprs (map plain_lexpr c.args.es.now))) (sym (kept_is c.in_ok-number.number _ (search rules) refl))
    (place_and_number c.args.es.now c.index-es-0.result c.index-es-1.result c.in_ok-place.place c.in_ok-number.number
    (grind (arith, nat_tests, c.if-es-ne2.false)) c.index-es-0.is c.index-es-1.is c.in_ok-place.ensures c.in_ok-number.ensures)
