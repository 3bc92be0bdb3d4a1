-- Where the sum is within the bound nothing fails, and else what is found.
use Rattle.std.proofs.Common.{◌≡◌, ◌<◌, ◌≤ℤ◌, ◌∙◌, [], get_or, refl, sym, ap, ap₂, subst, SFits, to_z, of_z, rules}
use mir.Syntax.{w128}
use Rattle.std.proofs.lemmas.Int.{to_z-of_z}
use Rattle.homeo_meaning.specs.Serial.{values_of}
use Rattle.homeo_plan.specs.Treaty.{bound_at}
use Rattle.homeo_outline.specs.ObjectPlan.{config_in}
use Rattle.homeo_outline.specs.Outlined.{Outlined}
use Rattle.homeo_site.specs.inner.Failures.{sum_failure}
use Rattle.homeo_site.proofs.OwnChecks.{lent_count, clause_fits, clause_fails, nothing_fails}
use Rattle.homeo_site.proofs.PlanClauses.{within_each}
use Rattle.homeo_site.proofs.own_treaty.clause_failure.Goals as goal

pub bounds-terms-clause : goal.bounds-terms-clause
bounds-terms-clause c =
    let lent = c.terms.ensures ∙ ap (λ (o : Outlined). o.terms) c.deref.ensures in
    subst (λ m. c.args.number < m) (sym (lent_count c.args.plan.now c.terms.result.now lent)) c.requires.number

pub own_sum-sum-requires : goal.own_sum-sum-requires
own_sum-sum-requires c =
    let lent = c.terms.ensures ∙ ap (λ (o : Outlined). o.terms) c.deref.ensures in
    clause_fits c.args.plan.now c.args.site c.args.number c.requires.keeps.site c.requires.number c.terms.result.now lent
    c.index-terms-clause.result c.index-terms-clause.is c.as_slice.result.now c.as_slice.ensures (values_of c.args.deltas.now) c.requires.fit

pub returns-then-is_within_each : goal.returns-then-is_within_each
returns-then-is_within_each c =
    let p = c.args.plan.now in
    let lent = c.terms.ensures ∙ ap (λ (o : Outlined). o.terms) c.deref.ensures in
    let fits : SFits w128 c.own_sum-sum.result = search rules in
    let back : to_z w128 (of_z w128 c.own_sum-sum.result) ≡ c.own_sum-sum.result = to_z-of_z w128 c.own_sum-sum.result fits in
    nothing_fails p c.args.site c.args.number c.requires.keeps.site c.requires.number c.terms.result.now lent
    c.index-terms-clause.result c.index-terms-clause.is c.as_slice.result.now c.as_slice.ensures (values_of c.args.deltas.now)
    c.own_sum-sum.result c.own_sum-sum.ensures
    (subst (λ z. z ≤ℤ bound_at (get_or (config_in p) c.args.number []) c.args.site) back
    (within_each p c.args.number c.requires.number (c.if-is_within_each.ensures.even refl) c.requires.keeps.not_negative c.args.site c.requires.keeps.site
    (to_z w128 (of_z w128 c.own_sum-sum.result)) (c.if-is_within_each.ensures.room refl)))

pub returns : goal.returns
returns c =
    let lent = c.terms.ensures ∙ ap (λ (o : Outlined). o.terms) c.deref.ensures in
    let sum_fits : SFits w128 c.own_sum-sum.result = search rules in
    let bound_fits : SFits w128 c.own_bound-bound.result = search rules in
    c.sum_failure.ensures
    ∙ ap₂ (sum_failure c.args.number) (to_z-of_z w128 c.own_sum-sum.result sum_fits ∙ c.own_sum-sum.ensures)
    (to_z-of_z w128 c.own_bound-bound.result bound_fits ∙ c.own_bound-bound.ensures)
    ∙ sym
    (clause_fails c.args.plan.now c.args.site c.args.number c.requires.keeps.site c.requires.number c.terms.result.now lent
    c.index-terms-clause.result c.index-terms-clause.is c.as_slice.result.now c.as_slice.ensures (values_of c.args.deltas.now))
