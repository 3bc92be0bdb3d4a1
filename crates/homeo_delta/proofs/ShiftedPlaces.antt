-- A transformed command writes only deltas of its site, which are there.
use Rattle.std.proofs.Common.{◌≡◌, ℕ, ◌≤◌, true, ◌&&◌, refl, ap₂, arith}
use Rattle.std.specs.Prelude.{slice_index_or}
use Rattle.std.proofs.lemmas.Bool.Decides.{nat_tests}
use Rattle.homeo_syntax.specs.declared.low.SplitName.TheVariants.{Whole, Base, Delta}
use Rattle.homeo_syntax.specs.Low.{Command, Commands, Skip, Assign, Write, Print, Seq, If, NoCommand, MoreCommand}
use Rattle.homeo_meaning.specs.Key.{definitions as meaning_definitions}
use Rattle.homeo_meaning.specs.NamesWithin.{NamesWithin}
use Rattle.homeo_meaning.specs.Whole.{IsWhole}
use Rattle.homeo_meaning.proofs.Parts.{AreWhole, AllNamesWithin}
use Rattle.homeo_plan.specs.Key.{definitions}
use Rattle.homeo_plan.specs.Split.{shift, shift_all}
use Rattle.homeo_split.specs.Key.{definitions as split_definitions}
use Rattle.homeo_split.specs.Shape.{Shape, has_places, has_places_all}

module _ (objects names : ℕ) (h : Shape) (k i : ℕ) (enough : objects ≤ slice_index_or h.deltas i 0) where
  mutual
    unfolding definitions meaning_definitions split_definitions

    places_there : (c : Command) → IsWhole c → NamesWithin objects names c → has_places h (shift k i c) ≡ true
    places_there Skip is within = refl
    places_there (Assign t e) is within = refl
    places_there (Write (Whole x) e) is within = grind (arith, nat_tests, within.0, enough)
    places_there (Write (Base x) e) is within = absurd is.0
    places_there (Write (Delta x j) e) is within = absurd is.0
    places_there (Print e) is within = refl
    places_there (Seq cs) is within = all_places_there cs is within
    places_there (If b c d) is within = ap₂ ◌&&◌ (places_there c is.1 within.1) (places_there d is.2 within.2)

    all_places_there : (cs : Commands) → AreWhole cs → AllNamesWithin objects names cs → has_places_all h (shift_all k i cs) ≡ true
    all_places_there NoCommand is within = refl
    all_places_there (MoreCommand c cs) is within = ap₂ ◌&&◌ (places_there c is.0 within.0) (all_places_there cs is.1 within.1)

pub places_law :
    (objects names : ℕ) (h : Shape) (k i : ℕ) (c : Command) → objects ≤ slice_index_or h.deltas i 0 → IsWhole c →
    NamesWithin objects names c → has_places h (shift k i c) ≡ true
places_law objects names h k i c enough = places_there objects names h k i enough c
