-- The workload is the accepted one, and so are its sites.
use Rattle.std.proofs.Common.{ap, ◌∙◌}
use Rattle.homeo_syntax.specs.SourceView.{plain_workload}
use Rattle.homeo_syntax.specs.declared.workload.Workload.{Workload}
use Rattle.homeo_plan.specs.Planned.{sites_of}
use Rattle.homeo_build.proofs.treaties.plan_after.Goals as goal

pub outline_after-requires-clause-sites : goal.outline_after-requires-clause-sites
outline_after-requires-clause-sites c = c.site_count-sites.ensures.sites ∙ ap (λ (v : Workload). sites_of (plain_workload v)) c.workload.ensures
