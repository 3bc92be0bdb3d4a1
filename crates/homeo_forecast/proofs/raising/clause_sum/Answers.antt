-- The terms over whole objects stand for those of the site's own deltas.
use Rattle.std.proofs.Common.{◌<◌, ◌∙◌, map, sym, ap, subst, SFits, rules}
use mir.Syntax.{w128}
use Rattle.std.proofs.lemmas.Int.{to_z-of_z}
use Rattle.homeo_meaning.specs.Serial.{values_of}
use Rattle.homeo_outline.specs.Outlined.{Outlined}
use Rattle.homeo_site.specs.OwnTreaty.{own_term, own_sum, SumsFit}
use Rattle.homeo_site.proofs.OwnChecks.{lent_count, terms_there}
use Rattle.homeo_site.proofs.PlanClauses.{sum_is}
use Rattle.homeo_forecast.proofs.raising.clause_sum.Goals as goal

pub bounds-terms-number : goal.bounds-terms-number
bounds-terms-number c =
    let lent = c.terms.ensures ∙ ap (λ (o : Outlined). o.terms) c.deref.ensures in
    subst (λ m. c.args.number < m) (sym (lent_count c.args.plan.now c.terms.result.now lent)) c.requires.number

pub own_sum-requires : goal.own_sum-requires
own_sum-requires c =
    let lent = c.terms.ensures ∙ ap (λ (o : Outlined). o.terms) c.deref.ensures in
    subst (λ ts. SumsFit (map own_term ts) (values_of c.args.deltas.now))
    (sym (terms_there c.args.plan.now c.args.number c.requires.number c.terms.result.now lent c.index-terms-number.result c.index-terms-number.is
    c.as_slice.result.now c.as_slice.ensures)) c.requires.fits

pub returns : goal.returns
returns c = λ site cl below.
    let lent = c.terms.ensures ∙ ap (λ (o : Outlined). o.terms) c.deref.ensures in
    let fits : SFits w128 c.own_sum.result = search rules in
    to_z-of_z w128 c.own_sum.result fits ∙ c.own_sum.ensures
    ∙ ap (λ ts. own_sum (map own_term ts) (values_of c.args.deltas.now))
    (terms_there c.args.plan.now c.args.number c.requires.number c.terms.result.now lent c.index-terms-number.result c.index-terms-number.is
    c.as_slice.result.now c.as_slice.ensures)
    ∙ sum_is c.args.plan.now c.args.number c.requires.number site below (values_of c.args.deltas.now) cl
