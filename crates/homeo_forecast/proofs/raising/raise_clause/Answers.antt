-- The room of the number takes the visit, whether or not it has already.
use Rattle.std.proofs.Common.{◌≡◌, ◌∙◌, get_or, refl, ⊎_elim, SFits, to_z, of_z, rules}
use mir.Syntax.{w128}
use Rattle.std.proofs.lemmas.Int.{to_z-of_z}
use Rattle.homeo_meaning.specs.Serial.{values_of}
use Rattle.homeo_plan.specs.Template.{Clause}
use Rattle.homeo_plan.specs.Treaty.{site_sum}
use Rattle.homeo_outline.specs.ObjectPlan.{template_in}
use Rattle.homeo_site.proofs.PlanClauses.{fits_at}
use Rattle.homeo_forecast.specs.inner.Raising.{own_visit}
use Rattle.homeo_forecast.proofs.RoomLists.{raised_below, open_now, one_raise}
use Rattle.homeo_forecast.proofs.raising.raise_clause.Goals as goal

pub clause_sum-sum-requires-clause-fits : goal.clause_sum-sum-requires-clause-fits
clause_sum-sum-requires-clause-fits c =
    fits_at c.args.plan.now c.args.number c.requires.number c.args.site c.requires.can.sums.below (values_of c.args.deltas.now) c.requires.can.sums.fit

pub bounds-rooms-number : goal.bounds-rooms-number
bounds-rooms-number c = raised_below c.args.plan.now c.args.site c.args.deltas.now c.args.rooms.now c.args.number c.requires.can c.requires.number

pub raise-requires : goal.raise-requires
raise-requires c =
    open_now c.args.plan.now c.args.site c.args.deltas.now c.args.rooms.now c.args.number c.index-rooms-number.result c.requires.can c.requires.number

pub returns : goal.returns
returns c = λ vs.
    let p = c.args.plan.now in
    let k = p.outline.value.sites in
    let v = own_visit c.args.site c.args.deltas.now in
    let fits : SFits w128 c.clause_sum-sum.result = search rules in
    let sum : (d : Clause) → to_z w128 (of_z w128 c.clause_sum-sum.result) ≡ site_sum c.args.site (get_or (template_in p).clauses c.args.number d).terms (values_of c.args.deltas.now) =
    λ d. to_z-of_z w128 c.clause_sum-sum.result fits ∙ c.clause_sum-sum.ensures c.args.site d c.requires.can.sums.below in
    one_raise p c.args.site c.args.deltas.now vs c.args.rooms.now c.args.number c.index-rooms-number.result
    c.raise.new.self c.requires.number
    (λ d room. ⊎_elim
    (λ old. c.raise.ensures.raised k vs (get_or (template_in p).clauses c.args.number d) v old refl c.requires.can.sums.below (sum d))
    (λ new. c.raise.ensures.again k vs (get_or (template_in p).clauses c.args.number d) v new refl c.requires.can.sums.below (sum d)) room)
