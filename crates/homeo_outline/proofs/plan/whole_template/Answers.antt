-- All clauses are made.
use Rattle.std.proofs.Common.{map, ap, ap₂, ◌∙◌, ◌∷◌, [], SFits, rules}
use mir.Syntax.{w128}
use Rattle.std.proofs.lemmas.Int.{to_z-of_z}
use Rattle.std.proofs.lemmas.List.{take_all, map-append}
use Rattle.homeo_plan.specs.Key.{definitions as plan_definitions}
use Rattle.homeo_plan.specs.PlanView.{plain_clause}
use Rattle.homeo_outline.specs.Key.{definitions}
use Rattle.homeo_outline.specs.ObjectPlan.{clauses_with}
use Rattle.homeo_outline.proofs.Slacks.{clause_made}
use Rattle.homeo_outline.proofs.plan.whole_template.Goals as goal

pub loop-number-init : goal.loop-number-init
unfolding definitions
loop-number-init c = ap (map plain_clause) c.in_ok-clauses.ensures.items

pub loop-number-preserved : goal.loop-number-preserved
loop-number-preserved c =
    let l = c.index-terms-number.result in
    let fits : SFits w128 c.item_or.result = search rules in
    let is = c.in_ok-clause_with.ensures ∙ ap₂ (λ ts s. record { terms = ts; slack = s }) (c.as_slice.ensures ∙ ap (λ t. t.items) c.index-terms-number.is) (to_z-of_z w128 c.item_or.result fits ∙ c.item_or.ensures) in
    ap (map plain_clause) c.in_ok-push.ensures.items
    ∙ map-append plain_clause c.loop-number.clauses.items (c.in_ok-clause_with.field-0 ∷ [])
    ∙ clause_made (λ t. t.items) c.terms-terms.result.now c.loop-number.number l c.loop-number-test.true c.args.slacks.now (map plain_clause c.loop-number.clauses.items)
    (plain_clause c.in_ok-clause_with.field-0) c.loop-number.invariant is

pub returns-clause-template : goal.returns-clause-template
unfolding definitions plan_definitions
returns-clause-template c =
    let all = ap (map (λ t. t.items)) (take_all c.loop-number.number c.terms-terms.result.now c.loop-number-test.false) ∙ c.terms-terms.ensures in
    let clauses = ap (λ l. map plain_clause l.items) c.from_vec.ensures ∙ c.loop-number.invariant ∙ ap (λ tss. clauses_with tss c.args.slacks.now) all in
    let freezes = ap (λ l. l.items) c.from_vec-2.ensures ∙ c.in_ok-freezes.ensures.items ∙ c.freezes.ensures in
    ap₂ (λ cs ds. record { clauses = cs; freezes = ds }) clauses freezes
