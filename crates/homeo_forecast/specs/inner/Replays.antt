-- What is kept as calls are replayed.
use Rattle.std.specs.Prelude.{◌≡◌, ◌<◌, ℕ, false, List, [], map, length, slice_index_or, ℤ}
use Rattle.homeo_syntax.specs.Source as s
use Rattle.homeo_meaning.specs.declared.call.CallId.{CallId}
use Rattle.homeo_meaning.specs.Calls.{CallExists}
use Rattle.homeo_meaning.specs.Serial.{values_of}
use Rattle.homeo_plan.specs.Each.{Each}
use Rattle.homeo_plan.specs.Local.{no_deltas}
use Rattle.homeo_plan.specs.Planned.{sites_of, planned_at, template_at}
use Rattle.homeo_plan.specs.Template.{Clause}
use Rattle.homeo_outline.specs.Numbers.{has}
use Rattle.homeo_forecast.specs.Forecast.{CanServe}
use Rattle.homeo_forecast.specs.Peaks.{PeaksFit}
use Rattle.homeo_forecast.specs.Visits.{Visit, visits, after_all, next_visit}
use Rattle.homeo_forecast.specs.declared.replay.Replay.{Replay}
use Rattle.homeo_forecast.specs.declared.rooms.Room.{Room}
use Rattle.homeo_forecast.specs.inner.Raising.{own_visit}
use Rattle.homeo_forecast.specs.inner.Rooms.{HaveRooms}

-- the deltas of each site, as lists
abbrev pub site_lists : Replay → List (List ℤ)
site_lists r = map (λ d. d.items) r.deltas.items

-- the deltas of a site, one for each object
pub record AreDeltas (base : List ℤ) (x : ℕ → ℤ) (deltas : List ℤ) : Type 0 where
  pub count : length deltas ≡ length base
  pub are : values_of deltas ≡ x

-- these calls were made, and a fitting configuration serves them
pub record IsReplay (w : s.Workload) (base : List ℤ) (calls : List CallId) (r : Replay) : Type 0 where
  pub exist : Each (λ call. CallExists w call) calls
  pub served : CanServe w base calls
  pub sites : length (site_lists r) ≡ sites_of w
  pub deltas : (i : ℕ) → i < sites_of w → AreDeltas base (after_all (λ j. no_deltas) (visits w base calls) i) (slice_index_or (site_lists r) i [])
  pub rooms : HaveRooms (sites_of w) (visits w base calls) (template_at w base).clauses r.rooms.items

-- a call behind these leaves its site these deltas, and all but the written objects as they were
pub record IsStep (w : s.Workload) (base : List ℤ) (before : List CallId) (call : CallId) (deltas : List ℤ) (written : List ℕ) : Type 0 where
  pub count : length deltas ≡ length base
  pub visit : own_visit (planned_at w call).site deltas ≡ next_visit w base before call
  pub others : (n : ℕ) → has n written ≡ false →
      values_of deltas n ≡ after_all (λ j. no_deltas) (visits w base before) (planned_at w call).site n

-- some calls were made
pub record IsSomeReplay (w : s.Workload) (base : List ℤ) (r : Replay) : Type 0 where
  pub calls : List CallId
  pub is : IsReplay w base calls r

-- the peaks fit, so that the bound of site 0 can be computed
pub record CanBound (rs : List Room) : Type 0 where
  pub sites : ℕ
  pub visits : List Visit
  pub clauses : List Clause
  pub some : 0 < sites
  pub rooms : HaveRooms sites visits clauses rs
  pub fit : PeaksFit sites visits clauses
