-- What a site keeps of a round besides its deltas.
use Rattle.std.specs.Prelude.{◌≡◌, ℕ, ◌<◌}
use Rattle.homeo_syntax.specs.Source as s
use Rattle.homeo_meaning.specs.Acceptance.{IsAccepted}
use Rattle.homeo_plan.specs.Planned.{sites_of, policy}
use Rattle.homeo_outline.specs.ObjectPlan.{config_in}
use Rattle.homeo_outline.specs.declared.plan.ObjectPlan.{ObjectPlan}
use Rattle.homeo_build.specs.Plan.{IsObjectPlan}
use Rattle.homeo_syntax.specs.SourceView.{plain_workload}
use Rattle.homeo_site.specs.SiteView.{StartValue}
use Rattle.homeo_site.specs.declared.effects.Effects.{Effects}
use Rattle.homeo_site.specs.inner.Effects.{AreKept}

-- the plan is that of the round, with bounds by the policy
pub record IsOwnRound (w : s.Workload) (p : ObjectPlan) (i : ℕ) : Type 0 where
  pub accepted : IsAccepted w
  pub site : i < sites_of w
  pub plan : IsObjectPlan w p.base.items p
  pub bounds : config_in p ≡ policy w p.base.items

-- and each effect that is kept is right there
pub record KeepsRound (v : StartValue) (p : ObjectPlan) (es : Effects) : Type 0 where
  pub round : IsOwnRound (plain_workload v.work) p v.number
  pub effects : AreKept v es
