-- Rooms that can be tested for a site's deltas, and rooms of which some have taken one visit more, and others not yet.
use Rattle.std.specs.Prelude.{◌≡◌, ◌<◌, ◌⊎◌, ℕ, List, [], ◌∷◌, ◌++◌, All, length, slice_index_or, ℤ}
use Rattle.homeo_meaning.specs.Serial.{values_of}
use Rattle.homeo_plan.specs.Template.{Clause}
use Rattle.homeo_outline.specs.ObjectPlan.{template_in, config_in}
use Rattle.homeo_outline.specs.declared.plan.ObjectPlan.{ObjectPlan}
use Rattle.homeo_site.specs.OwnTreaty.{SumsFit, own_clauses}
use Rattle.homeo_forecast.specs.Peaks.{PeaksFit}
use Rattle.homeo_forecast.specs.Visits.{Visit}
use Rattle.homeo_forecast.specs.declared.rooms.Room.{Room}
use Rattle.homeo_forecast.specs.inner.Rooms.{HasRoom, AreRooms}

-- the visit after which a site has these deltas
abbrev pub own_visit : ℕ → List ℤ → Visit
own_visit site deltas = record { site = site; deltas = values_of deltas }

-- these visits, and then that one
abbrev pub with_own : List Visit → ℕ → List ℤ → List Visit
with_own vs site deltas = vs ++ own_visit site deltas ∷ []

-- a site of the plan has deltas whose sums can be computed
pub record CanSum (p : ObjectPlan) (site : ℕ) (deltas : List ℤ) : Type 0 where
  pub below : site < p.outline.value.sites
  pub fit : All (λ c. SumsFit c.terms (values_of deltas)) (own_clauses site (template_in p).clauses (config_in p))

-- so does a site that makes one visit more, behind visits that fit
pub record CanTest (p : ObjectPlan) (rs : List Room) (site : ℕ) (deltas : List ℤ) : Type 0 where
  pub sums : CanSum p site deltas
  pub visits : List Visit
  pub rooms : AreRooms p visits rs
  pub fit : PeaksFit p.outline.value.sites visits (template_in p).clauses

-- each room has taken visits vs, and the site's visit too or not yet
pub record EitherRooms (p : ObjectPlan) (vs : List Visit) (site : ℕ) (deltas : List ℤ) (rs : List Room) : Type 0 where
  pub count : length rs ≡ length (template_in p).clauses
  pub each : (n : ℕ) (c : Clause) (r : Room) → n < length (template_in p).clauses →
      HasRoom p.outline.value.sites vs (slice_index_or (template_in p).clauses n c) (slice_index_or rs n r) ⊎
      HasRoom p.outline.value.sites (with_own vs site deltas) (slice_index_or (template_in p).clauses n c) (slice_index_or rs n r)

-- from one list of rooms to the next no room has lost a visit, and those that were looked at have the site's
pub record Raises (p : ObjectPlan) (vs : List Visit) (site : ℕ) (deltas : List ℤ) (Looked : ℕ → Type 0) (old new : List Room) : Type 0 where
  pub either : EitherRooms p vs site deltas old → EitherRooms p vs site deltas new
  pub stays : (n : ℕ) (c : Clause) (r : Room) → EitherRooms p vs site deltas old → n < length (template_in p).clauses →
      HasRoom p.outline.value.sites (with_own vs site deltas) (slice_index_or (template_in p).clauses n c) (slice_index_or old n r) →
      HasRoom p.outline.value.sites (with_own vs site deltas) (slice_index_or (template_in p).clauses n c) (slice_index_or new n r)
  pub raised : (n : ℕ) (c : Clause) (r : Room) → EitherRooms p vs site deltas old → n < length (template_in p).clauses → Looked n →
      HasRoom p.outline.value.sites (with_own vs site deltas) (slice_index_or (template_in p).clauses n c) (slice_index_or new n r)

-- all visits fit, with the site's too
pub record CanRaise (p : ObjectPlan) (rs : List Room) (site : ℕ) (deltas : List ℤ) : Type 0 where
  pub sums : CanSum p site deltas
  pub visits : List Visit
  pub rooms : EitherRooms p visits site deltas rs
  pub before : PeaksFit p.outline.value.sites visits (template_in p).clauses
  pub after : PeaksFit p.outline.value.sites (with_own visits site deltas) (template_in p).clauses
