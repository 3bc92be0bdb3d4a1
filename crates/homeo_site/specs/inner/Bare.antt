-- What a site keeps that keeps nothing of what it ran.
use Rattle.std.specs.Prelude.{List, ℤ}
use Rattle.homeo_syntax.specs.SourceView.{plain_workload}
use Rattle.homeo_meaning.specs.Acceptance.{IsAccepted}
use Rattle.homeo_site.specs.SiteView.{StartValue, with_deltas}
use Rattle.homeo_site.specs.inner.Ready.{IsReady}

-- the workload is accepted, the deltas meet the site's treaty, and base plus deltas is within bounds
pub record IsBare (v : StartValue) (x : List ℤ) : Type 0 where
  pub accepted : IsAccepted (plain_workload v.work)
  pub ready : IsReady (plain_workload v.work) (with_deltas v x)
