-- The room of the number is that of the clause, and the sum is the site's.
use Rattle.std.proofs.Common.{[], get_or, pos, refl, ◌∙◌, SFits, rules}
use mir.Syntax.{w128}
use Rattle.std.proofs.lemmas.Int.{to_z-of_z}
use Rattle.homeo_meaning.specs.Serial.{values_of}
use Rattle.homeo_plan.specs.Template.{Clause}
use Rattle.homeo_outline.specs.ObjectPlan.{template_in}
use Rattle.homeo_site.proofs.PlanClauses.{fits_at}
use Rattle.homeo_forecast.specs.Key.{definitions}
use Rattle.homeo_forecast.specs.inner.Raising.{own_visit}
use Rattle.homeo_forecast.proofs.RoomLists.{room_at, room_below, open_there}
use Rattle.homeo_forecast.proofs.stops.clause_stop.Goals as goal

abbrev none : Clause
none = record { terms = []; slack = pos 0 }

pub clause_sum-sum-requires-clause-fits : goal.clause_sum-sum-requires-clause-fits
clause_sum-sum-requires-clause-fits c =
    fits_at c.args.plan.now c.args.number c.requires.number c.args.site c.requires.can.sums.below (values_of c.args.deltas.now) c.requires.can.sums.fit

pub bounds-rooms-number : goal.bounds-rooms-number
bounds-rooms-number c = room_below c.args.plan.now c.args.site c.args.deltas.now c.args.rooms.now c.args.number c.requires.can c.requires.number

pub stop-requires : goal.stop-requires
stop-requires c =
    open_there c.args.plan.now c.args.site c.args.deltas.now c.args.rooms.now c.args.number c.index-rooms-number.result c.requires.can c.requires.number
    c.index-rooms-number.is

pub returns : goal.returns
unfolding definitions
returns c = λ vs rooms.
    let p = c.args.plan.now in
    let fits : SFits w128 c.clause_sum-sum.result = search rules in
    c.stop.ensures p.outline.value.sites vs (get_or (template_in p).clauses c.args.number none) (own_visit c.args.site c.args.deltas.now)
    (room_at p.outline.value.sites vs (template_in p).clauses c.args.rooms.now c.args.number none c.index-rooms-number.result rooms
    (room_below p c.args.site c.args.deltas.now c.args.rooms.now c.args.number c.requires.can c.requires.number) c.index-rooms-number.is)
    refl c.requires.can.sums.below
    (to_z-of_z w128 c.clause_sum-sum.result fits ∙ c.clause_sum-sum.ensures c.args.site none c.requires.can.sums.below)
