-- The plan is by the policy, there is a site 0, and the site begins with it.
use Rattle.std.proofs.Common.{ap, ◌∙◌}
use Rattle.std.proofs.lemmas.Result.{IfOk-at_ok}
use Rattle.homeo_site.specs.Key.{definitions}
use Rattle.homeo_site.specs.SiteView.{StartValue, SiteValue}
use Rattle.homeo_tests.proofs.SiteSteps.{policy_here, sites_there}
use Rattle.homeo_tests.proofs.sites.first_site.Goals as goal

pub new-requires-2-clause-policy : goal.new-requires-2-clause-policy
new-requires-2-clause-policy g c =
    policy_here c.expect-compiled.result.value c.deref.result.now c.expect-plan.result.value c.expect-base.result.items
    (IfOk-at_ok _ c.expect-plan.ensures c.plan_at.ensures.plan).base c.deref.ensures (IfOk-at_ok _ c.expect-plan.ensures c.plan_at.ensures.policy)

pub new-requires-2-clause-site : goal.new-requires-2-clause-site
new-requires-2-clause-site g c =
    sites_there c.args.w c.expect-made.result c.expect-compiled.result.value c.workload-workload.ensures.accepted
    (IfOk-at_ok _ c.expect-made.ensures c.compile.ensures) (IfOk-at_ok _ c.expect-compiled.ensures c.new.ensures.ok)

pub returns : goal.returns
unfolding definitions
returns g c =
    let start = IfOk-at_ok _ c.expect-start.ensures c.new-2.ensures in
    record {
      work = ap (λ (v : SiteValue). v.work) c.begin.ensures ∙ ap (λ (v : StartValue). v.work) start;
      number = ap (λ (v : SiteValue). v.state.number) c.begin.ensures ∙ ap (λ (v : StartValue). v.number) start;
    }
