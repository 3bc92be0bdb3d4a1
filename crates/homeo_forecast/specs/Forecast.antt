-- How far a list of calls goes without a cleanup, and what stops the next one (this project's rule).
use Rattle.std.specs.Prelude.{◌≡◌, ◌≤◌, ◌<◌, ℕ, MatchOption, slice_get, List, take, length, ℤ, Option, Some}
use Rattle.homeo_syntax.specs.Source as s
use Rattle.homeo_meaning.specs.declared.call.CallId.{CallId}
use Rattle.homeo_plan.specs.Key.{definitions}
use Rattle.homeo_plan.specs.Each.{Each}
use Rattle.homeo_plan.specs.Template.{Template}
use Rattle.homeo_plan.specs.Config.{Config, Fits}
use Rattle.homeo_plan.specs.Treaty.{Treaty}
use Rattle.homeo_plan.specs.Planned.{sites_of, template_at}
use Rattle.homeo_forecast.specs.Peaks.{peak_config, Stop, first_stop}
use Rattle.homeo_forecast.specs.Visits.{Visit, visits, next_visit}

-- each visit keeps the treaty of its site
abbrev pub Serves : Template → Config → List Visit → Type 0
unfolding definitions
Serves t config vs = Each (λ v. Treaty t config v.site v.deltas) vs

-- some fitting configuration serves the visits of k sites
pub record IsServed (k : ℕ) (t : Template) (vs : List Visit) : Type 0 where
  pub config : Config
  pub fits : Fits k t.clauses config
  pub serves : Serves t config vs

-- some fitting configuration serves these calls
abbrev pub CanServe : s.Workload → List ℤ → List CallId → Type 0
CanServe w base calls = IsServed (sites_of w) (template_at w base) (visits w base calls)

-- how far the list goes: so many calls are served by this configuration, no more by any, and why
pub record IsForecast (w : s.Workload) (base : List ℤ) (calls : List CallId) (kept : ℕ) (config : Config) (stop : Option Stop) : Type 0 where
  pub within : kept ≤ length calls
  pub config_is : config ≡ peak_config (sites_of w) (visits w base (take kept calls)) (template_at w base).clauses
  pub fits : Fits (sites_of w) (template_at w base).clauses config
  pub serves : Serves (template_at w base) config (visits w base (take kept calls))
  pub longest : (m : ℕ) → kept < m → m ≤ length calls → CanServe w base (take m calls) → ⊥
  pub stop_is : MatchOption stop (kept ≡ length calls) (λ found. (call : CallId) × (slice_get calls kept ≡ Some call)
      × (first_stop (sites_of w) (template_at w base) (visits w base (take kept calls)) (next_visit w base (take kept calls) call) ≡ Some found))
