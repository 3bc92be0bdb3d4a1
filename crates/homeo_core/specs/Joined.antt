-- Closed rounds and the sites of the open one, as one state (this project's rule).
use Rattle.std.specs.Prelude.{◌≡◌, ℕ, List, [], ◌∷◌, ◌++◌, map, length, ℤ, Some, None, IsSome, All, slice_get}
use Rattle.homeo_syntax.specs.Source as s
use Rattle.homeo_meaning.specs.Bounds.{IsWithin}
use Rattle.homeo_meaning.specs.Schema.{schema_of}
use Rattle.homeo_plan.specs.Planned.{sites_of}
use Rattle.homeo_history.specs.History.{Entry, Round, History}
use Rattle.homeo_history.specs.Legal.{IsAtSites, base_or, AreSerial}
use Rattle.homeo_history.specs.Replayed.{IsReplayed}
use Rattle.homeo_site.specs.SiteState.{SiteState, SiteHolds}
use Rattle.homeo_round.specs.PlusDeltas.{plus_deltas}
use Rattle.homeo_core.specs.Key.{definitions}

-- the closed rounds, and the base of the round after them
pub record BookState : Type 0 where
  pub closed : List Round
  pub base : List ℤ

-- the closed rounds are legal from the database start on as far as they go, up to this base, which is within bounds
pub record BookHolds (w : s.Workload) (start : List ℤ) (b : BookState) : Type 0 where
  pub starts : base_or b.closed b.base ≡ start
  pub within : IsWithin (schema_of w) b.base
  pub segments : All (λ r. length r.segments ≡ sites_of w) b.closed
  pub closed : All (λ r. IsSome r.closing) b.closed
  pub at_sites : All (IsAtSites w) b.closed
  pub serial : AreSerial w b.closed b.base
  pub replayed : All (IsReplayed w) b.closed

-- a site of this number, in the round after the closed ones and on its base
pub record IsInRound (b : BookState) (number : ℕ) (x : SiteState) : Type 0 where
  pub numbered : x.number ≡ number
  pub round : x.round ≡ length b.closed
  pub base : x.base ≡ b.base

-- so all sites, in the order of their numbers
pub record AreInRound (w : s.Workload) (b : BookState) (sites : List SiteState) : Type 0 where
  pub count : length sites ≡ sites_of w
  pub each : (i : ℕ) (x : SiteState) → slice_get sites i ≡ Some x → IsInRound b i x

-- closed rounds and sites that hold, in one round
pub record AreJoined (w : s.Workload) (start : List ℤ) (b : BookState) (sites : List SiteState) : Type 0 where
  pub book : BookHolds w start b
  pub holds : All (SiteHolds w) sites
  pub round : AreInRound w b sites

-- ---- the history
abbrev pub segments_of : List SiteState → List (List Entry)
unfolding definitions
segments_of sites = map (λ x. x.segment) sites

-- the round that the sites are in
abbrev pub open_round : List ℤ → List SiteState → Round
unfolding definitions
open_round base sites = record { base = base; segments = segments_of sites; closing = None }

-- a base with the deltas of these sites, one site after another
abbrev pub gathered : List ℤ → List SiteState → List ℤ
unfolding definitions
gathered base [] = base
gathered base (x ∷ sites) = gathered (plus_deltas base x.deltas) sites

abbrev pub rounds_of : BookState → List SiteState → List Round
unfolding definitions
rounds_of b sites = b.closed ++ open_round b.base sites ∷ []

-- the closed rounds, then the open one, which leaves its base with the deltas of all sites
abbrev pub history_of : BookState → List SiteState → History
unfolding definitions
history_of b sites = record { rounds = rounds_of b sites; last = gathered b.base sites }
