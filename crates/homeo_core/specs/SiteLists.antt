-- The states of sites, and sites in one round.
use Rattle.std.specs.Prelude.{◌≡◌, ℕ, zero, suc, List, [], ◌∷◌, map, ℤ, All, Some, slice_get}
use Rattle.homeo_syntax.specs.declared.workload.Workload.{Workload}
use Rattle.homeo_site.specs.SiteState.{SiteState}
use Rattle.homeo_site.specs.SiteView.{SiteValue}
use Rattle.homeo_core.specs.Key.{definitions}

abbrev pub states : List SiteValue → List SiteState
unfolding definitions
states sites = map (λ s. s.state) sites

-- they are sites of the workload
abbrev pub AreOf : Workload → List SiteValue → Type 0
unfolding definitions
AreOf w sites = All (λ s. s.work ≡ w) sites

-- the site of this number, in a round with this base
pub record IsAt (round : ℕ) (base : List ℤ) (number : ℕ) (x : SiteState) : Type 0 where
  pub numbered : x.number ≡ number
  pub in_round : x.round ≡ round
  pub on_base : x.base ≡ base

abbrev pub AreAt : ℕ → List ℤ → List SiteState → Type 0
unfolding definitions
AreAt round base sites = (i : ℕ) (x : SiteState) → slice_get sites i ≡ Some x → IsAt round base i x

-- as many items of the second list as the number says, and then what the first has there
abbrev pub first_from : {X : Type 0} → List X → List X → ℕ → List X
unfolding definitions
first_from old new zero = old
first_from old [] (suc n) = old
first_from [] (y ∷ new) (suc n) = []
first_from (x ∷ old) (y ∷ new) (suc n) = y ∷ first_from old new n
