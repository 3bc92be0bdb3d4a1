-- A site of the first number, in the tests.
use Rattle.std.specs.Prelude.{◌≡◌}
use Rattle.homeo_syntax.specs.declared.workload.Workload.{Workload}
use Rattle.homeo_site.specs.SiteView.{SiteValue}

-- the site is site 0 of the workload
pub record IsFirstSite (w : Workload) (v : SiteValue) : Type 0 where
  pub work : v.work ≡ w
  pub number : v.state.number ≡ 0
