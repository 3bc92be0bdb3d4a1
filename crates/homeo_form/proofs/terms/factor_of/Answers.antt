-- The term at the place, if it is one of the delta.
use Rattle.std.proofs.Common.{rules, ◌∙◌}
use Rattle.homeo_form.proofs.FactorsFound.{factor_found, no_factor_found}
use Rattle.homeo_form.proofs.Widths.{kept_is}
use Rattle.homeo_form.proofs.terms.factor_of.Goals as goal

pub returns-then-place-terms : goal.returns-then-place-terms
returns-then-place-terms c =
    kept_is c.share.result _ (search rules)
    (c.share.ensures
    ∙ factor_found c.args.delta c.args.terms.now c.place_by_halving-place.result _ c.requires c.if-place-terms.true c.place_by_halving-place.ensures)

pub returns-else-place-terms : goal.returns-else-place-terms
returns-else-place-terms c = no_factor_found c.args.delta c.args.terms.now c.place_by_halving-place.result c.if-place-terms.false c.place_by_halving-place.ensures
