use Rattle.std.proofs.Common.{ap, subst, ◌∙◌}
use Rattle.homeo_syntax.specs.SourceView.{plain_workload}
use Rattle.homeo_syntax.specs.declared.workload.Workload.{Workload}
use Rattle.homeo_meaning.specs.Acceptance.{IsAccepted}
use Rattle.homeo_plan.specs.PlanView.{plain_template}
use Rattle.homeo_plan.specs.Planned.{sites_of}
use Rattle.homeo_outline.specs.ObjectPlan.{config_or}
use Rattle.homeo_build.proofs.PlanParts.{has_slack, policy_is, config_fits}
use Rattle.homeo_build.proofs.treaties.treaties.Goals as goal

pub template_of-requires-clause-sites : goal.template_of-requires-clause-sites
template_of-requires-clause-sites c = c.site_count-sites.ensures.sites ∙ ap (λ (v : Workload). sites_of (plain_workload v)) c.workload.ensures

pub config_for-requires-clause-not_negative : goal.config_for-requires-clause-not_negative
config_for-requires-clause-not_negative c =
    has_slack (plain_workload c.args.c.now) c.args.base.now.items (plain_template c.in_ok-template.template) c.in_ok-template.ensures.template

pub returns-clause-config : goal.returns-clause-config
returns-clause-config c =
    let w = plain_workload c.args.c.now in
    c.in_ok-config.ensures
    ∙ ap (λ policy. config_or policy c.args.config)
    (policy_is w c.args.base.now.items (plain_template c.in_ok-template.template) c.in_ok-template.ensures.template)

pub returns-clause-fits : goal.returns-clause-fits
returns-clause-fits c =
    let accepted = subst (λ (v : Workload). IsAccepted (plain_workload v)) c.workload.ensures c.site_count-sites.ensures.accepted in
    config_fits (plain_workload c.args.c.now) c.args.base.now.items c.in_ok-config.config c.args.config accepted c.requires.fits (returns-clause-config c)

pub returns-clause-plan : goal.returns-clause-plan
returns-clause-plan c =
    record {
      within = c.requires.within;
      base = ap (λ l. l.items) c.from_vec.ensures ∙ c.in_ok-values.ensures.items ∙ c.as_slice.ensures;
      sites = c.in_ok-template.ensures.sites ∙ c.site_count-sites.ensures.sites ∙ ap (λ (v : Workload). sites_of (plain_workload v)) c.workload.ensures;
      template = c.in_ok-template.ensures.template;
      fits = returns-clause-fits c;
    }

pub config_for-requires-clause-sites : goal.config_for-requires-clause-sites
config_for-requires-clause-sites c = c.in_ok-template.ensures.sites ∙ c.site_count-sites.ensures.sites ∙ ap (λ (v : Workload). sites_of (plain_workload v)) c.workload.ensures
