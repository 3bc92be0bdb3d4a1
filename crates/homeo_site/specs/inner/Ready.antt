-- What a site's deltas have to be for a call's local step.
use Rattle.std.specs.Prelude.{◌≡◌, ℕ, ◌<◌, false, List, length, ℤ, ◌+ℤ◌}
use Rattle.homeo_syntax.specs.Source as s
use Rattle.homeo_meaning.specs.Bounds.{AllWithin, IsWithin}
use Rattle.homeo_meaning.specs.Schema.{schema_of}
use Rattle.homeo_meaning.specs.Serial.{values_of}
use Rattle.homeo_meaning.specs.declared.call.CallId.{CallId}
use Rattle.homeo_plan.specs.Planned.{sites_of}
use Rattle.homeo_history.specs.Legal.{IsCallAt}
use Rattle.homeo_history.specs.Replayed.{MeetsTreaty}
use Rattle.homeo_outline.specs.Numbers.{has}
use Rattle.homeo_site.specs.SiteState.{SiteState, step_deltas}
use Rattle.homeo_site.specs.SiteView.{StartValue, with_deltas}

-- they meet the site's treaty, and base plus deltas is within bounds
pub record IsReady (w : s.Workload) (x : SiteState) : Type 0 where
  pub site : x.number < sites_of w
  pub within : IsWithin (schema_of w) x.base
  pub count : length x.deltas ≡ length x.base
  pub meets : MeetsTreaty w x.base x.number (values_of x.deltas)
  pub all : AllWithin (schema_of w) (λ n. values_of x.base n +ℤ values_of x.deltas n)

-- these deltas are those after a call's local step, from deltas that a site may have there, and these objects all that it wrote
pub record IsAfterStep (w : s.Workload) (v : StartValue) (written : List ℕ) (deltas : List ℤ) : Type 0 where
  pub call : CallId
  pub before : List ℤ
  pub at : IsCallAt w v.number call
  pub ready : IsReady w (with_deltas v before)
  pub left : deltas ≡ step_deltas w (with_deltas v before) call
  pub others : (n : ℕ) → has n written ≡ false → values_of deltas n ≡ values_of before n
