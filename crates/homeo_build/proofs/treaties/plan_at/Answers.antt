-- The workload is the accepted one, and so are its sites; the template is made of the parts.
use Rattle.std.proofs.Common.{ap, sym, subst, ◌∙◌}
use Rattle.homeo_syntax.specs.SourceView.{plain_workload}
use Rattle.homeo_syntax.specs.declared.workload.Workload.{Workload}
use Rattle.homeo_plan.specs.Planned.{sites_of}
use Rattle.homeo_build.specs.Plan.{AreParts}
use Rattle.homeo_build.proofs.treaties.plan_at.Goals as goal

pub template_of_parts-requires-clause-parts : goal.template_of_parts-requires-clause-parts
template_of_parts-requires-clause-parts c =
    subst (AreParts (plain_workload c.args.c.now) c.args.base.now.items) (sym c.as_slice.ensures) c.in_ok-parts.ensures

pub template_of_parts-requires-clause-sites : goal.template_of_parts-requires-clause-sites
template_of_parts-requires-clause-sites c = c.site_count-sites.ensures.sites ∙ ap (λ (v : Workload). sites_of (plain_workload v)) c.workload.ensures
