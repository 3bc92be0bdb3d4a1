-- Without bounds they are even; else they are the given ones.
use Rattle.std.proofs.Common.{◌<◌, ◌≤ℤ◌, ◌∙◌, [], get_or, pos, sym, ap, ap₂, subst, SFits, rules}
use mir.Syntax.{w128}
use Rattle.std.specs.Prelude.{replicate}
use Rattle.std.proofs.lemmas.Int.{to_z-of_z}
use Rattle.homeo_meaning.specs.Small.{IsSmall}
use Rattle.homeo_plan.specs.Config.{split}
use Rattle.homeo_plan.specs.Limit.{form_limit}
use Rattle.homeo_plan.specs.Treaty.{bound_at}
use Rattle.homeo_outline.specs.Outlined.{Outlined}
use Rattle.homeo_site.proofs.PlanClauses.{slack_is, even_config, given_config}
use Rattle.homeo_site.proofs.own_treaty.own_bound.Goals as goal

pub even_bound-requires-clause-site : goal.even_bound-requires-clause-site
even_bound-requires-clause-site c =
    subst (λ k. c.args.site < k) (sym (c.sites.ensures ∙ ap (λ (o : Outlined). o.sites) c.deref.ensures)) c.requires.keeps.site

pub even_bound-requires-clause-not_negative : goal.even_bound-requires-clause-not_negative
even_bound-requires-clause-not_negative c =
    let fits : SFits w128 c.slack_of.result = search rules in
    subst (λ z. pos 0 ≤ℤ z) (sym (to_z-of_z w128 c.slack_of.result fits ∙ c.slack_of.ensures))
    (slack_is c.args.plan.now c.args.clause c.requires.clause (λ z. pos 0 ≤ℤ z) c.requires.keeps.not_negative)

pub even_bound-requires-clause-small : goal.even_bound-requires-clause-small
even_bound-requires-clause-small c =
    let fits : SFits w128 c.slack_of.result = search rules in
    subst (IsSmall form_limit) (sym (to_z-of_z w128 c.slack_of.result fits ∙ c.slack_of.ensures))
    (slack_is c.args.plan.now c.args.clause c.requires.clause (λ z. IsSmall form_limit z) c.requires.keeps.small)

pub returns-in-None : goal.returns-in-None
returns-in-None c =
    let slack_fits : SFits w128 c.slack_of.result = search rules in
    let slack = to_z-of_z w128 c.slack_of.result slack_fits ∙ c.slack_of.ensures in
    let sites = c.sites.ensures ∙ ap (λ (o : Outlined). o.sites) c.deref.ensures in
    let fits : SFits w128 c.even_bound.result = search rules in
    to_z-of_z w128 c.even_bound.result fits ∙ c.even_bound.ensures
    ∙ ap₂ (λ k z. bound_at (split (replicate k 1) z) c.args.site) sites slack
    ∙ ap (λ bounds. bound_at bounds c.args.site) (sym (even_config c.args.plan.now c.args.clause c.requires.clause c.in-None.is))

pub returns-in-Some : goal.returns-in-Some
returns-in-Some c =
    let fits : SFits w128 c.bound_of.result = search rules in
    to_z-of_z w128 c.bound_of.result fits ∙ c.bound_of.ensures
    ∙ ap (λ config. bound_at (get_or config c.args.clause []) c.args.site) (given_config c.args.plan.now _ c.in-Some.is)
