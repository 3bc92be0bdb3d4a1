-- The L forms of the calls of a load: their size and depth, their prints, their weights.
use Rattle.std.proofs.Common.{◌≡◌, ℕ, ◌<◌, ◌≤◌, true, List, [], ◌∷◌, pos, refl}
use Rattle.homeo_meaning.specs.Key.{definitions as meaning_definitions}
use Rattle.homeo_meaning.specs.Schema.{schema_of}
use Rattle.homeo_meaning.specs.CallForm.{call_form}
use Rattle.homeo_meaning.specs.LowSizes.{Extent, prints_in}
use Rattle.homeo_meaning.specs.LowWeights.{first_weights, is_light}
use Rattle.homeo_meaning.specs.GlobalNames.{SitedCall}
use Rattle.homeo_meaning.specs.SizeRules.{extent_of, heaviest}
use Rattle.homeo_load.specs.Key.{definitions}
use Rattle.homeo_load.specs.Additions.{Addition}
use Rattle.homeo_load.specs.Load.{ident, transaction_name, load_of}
use Rattle.homeo_load.proofs.Cases.{by_eight, by_nine}

-- the call of addp(n) at a site
abbrev pub sited : ℕ → ℕ → ℕ → SitedCall
unfolding definitions
sited p n site = record { name = ident (transaction_name p); args = pos n ∷ []; site = pos site }

abbrev pub load_extent : Extent
load_extent = record { size = 50; depth = 5 }

module _ (all : List Addition) where
  abbrev HasExtent : ℕ → ℕ → ℕ → Type 0
  HasExtent n site p = extent_of (load_of all) (sited p n site) ≡ load_extent

  pub extent_at : (n site p : ℕ) → p < 8 → HasExtent n site p
  unfolding meaning_definitions definitions
  extent_at n site = by_eight (HasExtent n site) refl refl refl refl refl refl refl refl

  abbrev PrintsOnce : ℕ → ℕ → ℕ → Type 0
  PrintsOnce n site p = prints_in (call_form (load_of all) (sited p n site)) ≡ 1

  pub prints_at : (n site p : ℕ) → p < 8 → PrintsOnce n site p
  unfolding meaning_definitions definitions
  prints_at n site = by_eight (PrintsOnce n site) refl refl refl refl refl refl refl refl

  abbrev IsLight : ℕ → ℕ → ℕ → Type 0
  IsLight site n p = is_light heaviest (call_form (load_of all) (sited p n site)) (first_weights (schema_of (load_of all))) ≡ true

  abbrev AllLight : ℕ → ℕ → Type 0
  AllLight site n = (p : ℕ) → p < 8 → IsLight site n p

  pub light_at : (site n : ℕ) → 1 ≤ n → n ≤ 9 → AllLight site n
  unfolding meaning_definitions definitions
  light_at site =
      by_nine (AllLight site)
      (by_eight (IsLight site 1) refl refl refl refl refl refl refl refl)
      (by_eight (IsLight site 2) refl refl refl refl refl refl refl refl)
      (by_eight (IsLight site 3) refl refl refl refl refl refl refl refl)
      (by_eight (IsLight site 4) refl refl refl refl refl refl refl refl)
      (by_eight (IsLight site 5) refl refl refl refl refl refl refl refl)
      (by_eight (IsLight site 6) refl refl refl refl refl refl refl refl)
      (by_eight (IsLight site 7) refl refl refl refl refl refl refl refl)
      (by_eight (IsLight site 8) refl refl refl refl refl refl refl refl)
      (by_eight (IsLight site 9) refl refl refl refl refl refl refl refl)
