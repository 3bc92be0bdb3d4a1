-- Without weights the bounds are even; else they are made over the deltas of the sites.
use Rattle.std.proofs.Common.{ap, sym, subst, ◌∙◌}
use Rattle.std.proofs.lemmas.Bool.{eqb-true}
use Rattle.homeo_meaning.specs.Acceptance.{IsAccepted}
use Rattle.homeo_meaning.specs.Small.{IsSmall}
use Rattle.homeo_syntax.specs.SourceView.{plain_workload}
use Rattle.homeo_syntax.specs.declared.workload.Workload.{Workload}
use Rattle.homeo_plan.specs.Config.{HaveSlack, split_by}
use Rattle.homeo_plan.specs.Each.{Each}
use Rattle.homeo_plan.specs.Limit.{form_limit}
use Rattle.homeo_plan.specs.Planned.{shares_of}
use Rattle.homeo_plan.specs.Template.{Template}
use Rattle.homeo_outline.specs.Key.{definitions}
use Rattle.homeo_outline.specs.Outlined.{Outlined}
use Rattle.homeo_build.specs.inner.SharedTemplate.{spread}
use Rattle.homeo_build.proofs.PlanParts.{spread_whole}
use Rattle.homeo_build.proofs.SiteShares.{no_weights, by_even}
use Rattle.homeo_build.proofs.treaties.bounds_by_weights.Goals as goal

pub returns-then-is_empty : goal.returns-then-is_empty
unfolding definitions
returns-then-is_empty c =
    let t = c.args.t.now in
    let same = c.workload-2.ensures.value ∙ c.workload.ensures in
    let accepted = subst (λ (v : Workload). IsAccepted (plain_workload v)) c.workload.ensures c.workload-2.ensures.accepted in
    let none = no_weights c.args.c.now c.workload-2.result.now accepted same c.as_slice.result.now c.as_slice.ensures (eqb-true _ _ (sym c.if-is_empty.ensures)) in
    by_even (plain_workload c.args.c.now) t.outline.value.sites (spread t).clauses c.requires.sites none

pub split_by_weights-requires : goal.split_by_weights-requires
split_by_weights-requires c =
    let made = c.in_ok-template.ensures in
    let whole = c.in_ok-whole.ensures in
    let back = sym (made.template ∙ spread_whole c.args.t.now _ _ c.in_ok-whole.whole c.deref.ensures c.as_slice-2.ensures whole.sites whole.template) in
    record {
      sites = made.sites ∙ whole.sites ∙ ap (λ (o : Outlined). o.sites) c.deref.ensures ∙ c.requires.sites;
      not_negative = subst (λ (t : Template). HaveSlack t.clauses) back c.requires.not_negative;
      small = subst (λ (t : Template). Each (λ c. IsSmall form_limit c.slack) t.clauses) back c.requires.small;
    }

pub returns : goal.returns
unfolding definitions
returns c =
    let whole = c.in_ok-whole.ensures in
    c.in_ok-bounds.ensures
    ∙ ap (λ (t : Template). split_by (shares_of (plain_workload c.args.c.now)) t.clauses)
    (c.in_ok-template.ensures.template
    ∙ spread_whole c.args.t.now _ _ c.in_ok-whole.whole c.deref.ensures c.as_slice-2.ensures whole.sites whole.template)
