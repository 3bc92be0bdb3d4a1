-- One more clause, and all of them.
use Rattle.std.proofs.Common.{◌<◌, ◌∙◌, [], get_or, length, pos, sym, ap, subst, arith, SFits, rules}
use mir.Syntax.{w128}
use Rattle.std.proofs.lemmas.Int.{to_z-of_z}
use Rattle.homeo_lemmas.proofs.Lists.{take_past}
use Rattle.homeo_plan.specs.Template.{Clause}
use Rattle.homeo_outline.specs.ObjectPlan.{template_in}
use Rattle.homeo_outline.specs.Outlined.{Outlined}
use Rattle.homeo_site.proofs.OwnChecks.{lent_count}
use Rattle.homeo_site.proofs.PlanClauses.{slack_here}
use Rattle.homeo_forecast.specs.inner.Rooms.{HasRoom, HaveRooms}
use Rattle.homeo_forecast.proofs.ReplayLists.{no_rooms, one_room}
use Rattle.homeo_forecast.proofs.replay.new_rooms.Goals as goal

abbrev none : Clause
none = record { terms = []; slack = pos 0 }

pub loop-clause-init : goal.loop-clause-init
loop-clause-init c = no_rooms c.args.plan.now.outline.value.sites [] _ c.new-rooms.ensures.items

pub loop-clause-preserved : goal.loop-clause-preserved
loop-clause-preserved c =
    let p = c.args.plan.now in
    let n = c.loop-clause.clause in
    let count = lent_count p c.terms-clause-end.result.now (c.terms-clause-end.ensures ∙ ap (λ (o : Outlined). o.terms) c.deref.ensures) in
    let lt : n < length (template_in p).clauses = omega (arith, c.loop-clause-test.true, count) in
    let fits : SFits w128 c.item_or-slack.result = search rules in
    let slack = to_z-of_z w128 c.item_or-slack.result fits ∙ c.item_or-slack.ensures ∙ ap (λ l. get_or l n (pos 0)) c.as_slice.ensures in
    let sites = c.sites.ensures ∙ ap (λ (o : Outlined). o.sites) c.deref-in-loop-clause.ensures in
    one_room p.outline.value.sites [] (template_in p).clauses n none _ _ _ lt c.loop-clause.invariant
    (subst (λ k. HasRoom k [] (get_or (template_in p).clauses n none) c.in_ok-new.field-0) sites
    (c.in_ok-new.ensures (get_or (template_in p).clauses n none) (slack_here p n lt none ∙ sym slack)))
    c.in_ok-push.ensures.items

pub returns : goal.returns
returns c =
    let p = c.args.plan.now in
    let count = lent_count p c.terms-clause-end.result.now (c.terms-clause-end.ensures ∙ ap (λ (o : Outlined). o.terms) c.deref.ensures) in
    subst (λ cs. HaveRooms p.outline.value.sites [] cs c.loop-clause.rooms.items)
    (take_past (template_in p).clauses c.loop-clause.clause (omega (arith, c.loop-clause-test.false, count))) c.loop-clause.invariant
