-- The clauses are put together again.
use Rattle.std.proofs.Common.{map, ◌++◌, ap, ap₂, ◌∙◌}
use Rattle.homeo_plan.specs.Key.{definitions as plan_definitions}
use Rattle.homeo_plan.specs.declared.templates.Clause.{Clause}
use Rattle.homeo_outline.specs.Key.{definitions}
use Rattle.homeo_outline.specs.ObjectPlan.{clauses_with}
use Rattle.homeo_outline.proofs.Slacks.{clauses_apart}
use Rattle.homeo_outline.proofs.plan.outlined.Goals as goal

pub returns-clause-template : goal.returns-clause-template
unfolding definitions plan_definitions
returns-clause-template c =
    let moved = c.in_ok-move_parts.ensures in
    let moved_terms = moved.terms ∙ ap (λ ls. ls ++ map (λ (d : Clause). d.terms) c.args.t.clauses.items) c.in_ok-terms.ensures.items in
    let moved_slacks = moved.slacks ∙ ap (λ ls. ls ++ map (λ (d : Clause). d.slack) c.args.t.clauses.items) c.in_ok-slacks.ensures.items in
    let terms = ap (λ o. o.terms) c.in_ok-outline.ensures ∙ ap (λ l. map (λ t. t.items) l.items) c.from_vec.ensures ∙ ap (map (λ t. t.items)) moved_terms in
    let slacks = ap (λ l. l.items) c.from_vec-2.ensures ∙ moved_slacks in
    let freezes = ap (λ o. o.freezes) c.in_ok-outline.ensures in
    ap₂ (λ cs ds. record { clauses = cs; freezes = ds }) (ap₂ clauses_with terms slacks ∙ clauses_apart c.args.t.clauses.items) freezes
