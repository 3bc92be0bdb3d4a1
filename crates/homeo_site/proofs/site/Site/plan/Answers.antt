use Rattle.std.proofs.Common.{subst}
use Rattle.homeo_syntax.specs.SourceView.{plain_workload}
use Rattle.homeo_build.specs.Plan.{IsObjectPlan}
use Rattle.homeo_site.specs.SiteView.{SiteValue}
use Rattle.homeo_site.proofs.site.Site.plan.Goals as goal

pub returns : goal.returns
returns c =
    subst (λ (v : SiteValue). IsObjectPlan (plain_workload v.work) v.state.base c.plan.result.now) c.self.view_is c.plan.ensures
