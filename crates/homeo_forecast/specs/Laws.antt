-- The laws of forecasts.
use Rattle.std.specs.Prelude.{◌≡◌, ℕ, ℤ, ◌<◌, ◌≤◌, List, [], ◌∷◌, ◌++◌, length, take, slice_get, Option, Some, None}
use Rattle.homeo_syntax.specs.Source as s
use Rattle.homeo_meaning.specs.declared.call.CallId.{CallId}
use Rattle.homeo_meaning.specs.Acceptance.{IsAccepted}
use Rattle.homeo_meaning.specs.Calls.{CallExists}
use Rattle.homeo_plan.specs.Each.{Each}
use Rattle.homeo_plan.specs.Template.{Template}
use Rattle.homeo_plan.specs.Config.{Config, Fits}
use Rattle.homeo_plan.specs.Planned.{sites_of, template_at}
use Rattle.homeo_forecast.specs.Forecast.{Serves, IsServed, CanServe, IsForecast}
use Rattle.homeo_forecast.specs.Peaks.{PeaksFit, KeepFreezes, peak_config, Stop, first_stop}
use Rattle.homeo_forecast.specs.Visits.{Visit, visits, next_visit}

-- visits of k sites
abbrev pub AreSited : ℕ → List Visit → Type 0
AreSited k vs = Each (λ v. v.site < k) vs

-- a fitting configuration serves visits exactly where in each clause the peaks sum to at most the slack, and all freezes hold
abbrev pub ServedExactly : Type 0
ServedExactly =
    (k : ℕ) (t : Template) (vs : List Visit) → 0 < k → AreSited k vs →
    (IsServed k t vs → PeaksFit k vs t.clauses × KeepFreezes vs t.freezes)
    × (PeaksFit k vs t.clauses × KeepFreezes vs t.freezes → IsServed k t vs)

-- where they do, the peaks are such a configuration, with the rest of each slack at site 0
abbrev pub PeaksServe : Type 0
PeaksServe =
    (k : ℕ) (t : Template) (vs : List Visit) → 0 < k → AreSited k vs → IsServed k t vs →
    Fits k t.clauses (peak_config k vs t.clauses) × Serves t (peak_config k vs t.clauses) vs

-- one visit more is served exactly where nothing stands in its way
abbrev pub ServedOn : Type 0
ServedOn =
    (k : ℕ) (t : Template) (vs : List Visit) (v : Visit) → 0 < k → AreSited k (vs ++ v ∷ []) → IsServed k t vs →
    (first_stop k t vs v ≡ None → IsServed k t (vs ++ v ∷ []))
    × ((b : Stop) → first_stop k t vs v ≡ Some b → IsServed k t (vs ++ v ∷ []) → ⊥)

-- what serves visits serves the first of them
abbrev pub ServedFirst : Type 0
ServedFirst = (k : ℕ) (t : Template) (vs more : List Visit) → IsServed k t (vs ++ more) → IsServed k t vs

-- where nothing stands in the way of no call, the whole list is served; where something does, no longer list is
abbrev pub ForecastsStand : Type 0
ForecastsStand =
    (w : s.Workload) (base : List ℤ) (calls : List CallId) (n : ℕ) → IsAccepted w →
    Each (λ call. CallExists w call) calls → CanServe w base (take n calls) → n ≤ length calls →
    (n ≡ length calls → IsForecast w base calls n (peak_config (sites_of w) (visits w base (take n calls)) (template_at w base).clauses) None)
    × ((call : CallId) (b : Stop) → slice_get calls n ≡ Some call →
    first_stop (sites_of w) (template_at w base) (visits w base (take n calls)) (next_visit w base (take n calls) call) ≡ Some b →
    IsForecast w base calls n (peak_config (sites_of w) (visits w base (take n calls)) (template_at w base).clauses) (Some b))

-- there is one forecast
abbrev pub OneForecast : Type 0
OneForecast =
    (w : s.Workload) (base : List ℤ) (calls : List CallId) (n m : ℕ) (c d : Config) (a b : Option Stop) →
    IsForecast w base calls n c a → IsForecast w base calls m d b → (n ≡ m) × (c ≡ d) × (a ≡ b)
