-- A command that names only whole objects that the base has writes only where there is a place.
use Rattle.std.proofs.Common.{◌≡◌, ℕ, ◌≤◌, true, ◌&&◌, refl, ap₂, arith}
use Rattle.std.proofs.lemmas.Bool.Decides.{nat_tests}
use Rattle.homeo_syntax.specs.declared.low.SplitName.{SplitName}
use Rattle.homeo_syntax.specs.declared.low.SplitName.TheVariants.{Whole, Base, Delta}
use Rattle.homeo_syntax.specs.Low.{Command, Commands, Skip, Assign, Write, Print, Seq, If, NoCommand, MoreCommand}
use Rattle.homeo_meaning.specs.Key.{definitions as meaning_definitions}
use Rattle.homeo_meaning.specs.NamesWithin.{ObjectWithin, NamesWithin}
use Rattle.homeo_meaning.specs.Whole.{IsWholeName, IsWhole}
use Rattle.homeo_meaning.proofs.Parts.{AreWhole, AllNamesWithin}
use Rattle.homeo_split.specs.Key.{definitions}
use Rattle.homeo_split.specs.Shape.{Shape, has_place, has_places, has_places_all}

module _ (objects names : ℕ) (h : Shape) (enough : objects ≤ h.base) where
  place_there : (x : SplitName) → IsWholeName x → ObjectWithin objects names x → has_place h x ≡ true
  unfolding definitions meaning_definitions
  place_there (Whole x) is within = grind (arith, nat_tests, within, enough)
  place_there (Base x) is within = absurd is
  place_there (Delta x j) is within = absurd is

  mutual
    unfolding definitions meaning_definitions

    places_there : (c : Command) → IsWhole c → NamesWithin objects names c → has_places h c ≡ true
    places_there Skip is within = refl
    places_there (Assign t e) is within = refl
    places_there (Write x e) is within = place_there x is.0 within.0
    places_there (Print e) is within = refl
    places_there (Seq cs) is within = all_places_there cs is within
    places_there (If b c d) is within = ap₂ ◌&&◌ (places_there c is.1 within.1) (places_there d is.2 within.2)

    all_places_there : (cs : Commands) → AreWhole cs → AllNamesWithin objects names cs → has_places_all h cs ≡ true
    all_places_there NoCommand is within = refl
    all_places_there (MoreCommand c cs) is within = ap₂ ◌&&◌ (places_there c is.0 within.0) (all_places_there cs is.1 within.1)

pub places_law : (objects names : ℕ) (h : Shape) (c : Command) → objects ≤ h.base → IsWhole c → NamesWithin objects names c → has_places h c ≡ true
places_law objects names h c enough = places_there objects names h enough c
