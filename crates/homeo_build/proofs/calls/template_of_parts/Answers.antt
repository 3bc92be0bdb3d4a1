-- The outline and slacks are those of the template of the parts, which has few clauses and freezes.
use Rattle.std.proofs.Common.{◌≡◌, ℤ, sym, ap, ap₂, ◌∙◌, subst, arith}
use Rattle.std.proofs.lemmas.List.{length-map}
use Rattle.homeo_syntax.specs.Listed.{Listed}
use Rattle.homeo_syntax.specs.SourceView.{plain_workload}
use Rattle.homeo_plan.specs.PlanView.{plain_clause, plain_template}
use Rattle.homeo_follow.specs.ObjectTemplate.{expanded_template}
use Rattle.homeo_outline.specs.Leaders.{Lead}
use Rattle.homeo_outline.specs.ObjectPlan.{template_with}
use Rattle.homeo_outline.specs.Outlined.{Outlined}
use Rattle.homeo_build.proofs.FewFreezes.{whole_few}
use Rattle.homeo_build.proofs.calls.template_of_parts.Goals as goal

pub outlined-requires : goal.outlined-requires
outlined-requires c =
    let t = c.in_ok-template.template in
    omega (
      arith,
      whole_few (plain_workload c.args.c.now) c.args.base.now.items c.args.sites (plain_template t) c.requires.accepted c.in_ok-template.ensures.template,
      length-map t.clauses.items plain_clause,
    )

pub returns : goal.returns
returns c =
    let slacks = c.slacks.inside.items.items in
    let kept : slacks ≡ c.in_ok-outline.slacks.items = ap (λ (l : Listed ℤ). l.items) c.slacks.view_is in
    let same = c.in_ok-new.ensures.ok in
    let sites = c.in_ok-outline.ensures.sites ∙ c.in_ok-template.ensures.sites in
    record {
      sites = ap (λ (n : Outlined). n.sites) same ∙ sites ∙ c.requires.sites;
      template =
          ap (λ (n : Outlined). expanded_template n.sites (template_with n slacks)) same
          ∙ ap₂ (λ k ss. expanded_template k (template_with c.in_ok-outline.outline ss)) sites kept
          ∙ ap (expanded_template c.args.sites) c.in_ok-outline.ensures.template
          ∙ c.in_ok-template.ensures.template;
      led =
          subst (λ ls. Lead c.in_ok-new.field-0.value.terms slacks ls) (sym c.in_ok-new-2.ensures.ok)
          (subst (λ (o : Outlined). Lead o.terms slacks c.in_ok-leaders.leaders) (sym same)
          (subst (λ ss. Lead c.in_ok-outline.outline.terms ss c.in_ok-leaders.leaders) (c.as_slice.ensures ∙ sym kept) c.in_ok-leaders.ensures));
    }
