-- An even split has room at each site for what all may have.
use Rattle.std.proofs.Common.{◌*ℤ◌, ◌≤ℤ◌, ◌∙◌, pos, ap, subst, SFits, to_z, of_z, rules}
use mir.Syntax.{w128}
use Rattle.std.proofs.lemmas.Int.{to_z-of_z}
use Rattle.homeo_outline.specs.Outlined.{Outlined}
use Rattle.homeo_site.proofs.PlanClauses.{none_given}
use Rattle.homeo_site.proofs.own_treaty.is_within_each.Goals as goal

pub returns-then-is_none-clause-even : goal.returns-then-is_none-clause-even
returns-then-is_none-clause-even c = λ all. none_given c.args.plan.now.bounds c.if-is_none.ensures

pub returns-then-is_none-clause-room : goal.returns-then-is_none-clause-room
returns-then-is_none-clause-room c = λ all.
    let fits : SFits w128 c.slack_of.result = search rules in
    let slack = to_z-of_z w128 c.slack_of.result fits ∙ c.slack_of.ensures in
    let sites = c.sites.ensures ∙ ap (λ (o : Outlined). o.sites) c.deref.ensures in
    let sum = to_z-of_z w128 c.args.sum c.ranges.sum in
    subst (λ z. (c.args.sum *ℤ pos c.args.plan.now.outline.value.sites) ≤ℤ z) slack
    (subst (λ k. (c.args.sum *ℤ pos k) ≤ℤ to_z w128 (of_z w128 c.slack_of.result)) sites
    (subst (λ z. (z *ℤ pos c.sites.result) ≤ℤ to_z w128 (of_z w128 c.slack_of.result)) sum (c.may_all_have.ensures all)))
