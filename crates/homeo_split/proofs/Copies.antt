-- Lists of lists with the same items, and states that differ in temporaries alone.
use Rattle.std.proofs.Common.{◌≡◌, ℤ, pos, List, [], ◌∷◌, map, length, refl, sym, ap, ◌∙◌}
use Rattle.homeo_syntax.specs.declared.low.SplitName.{SplitName}
use Rattle.homeo_syntax.specs.declared.low.Temp.{Temp}
use Rattle.homeo_syntax.specs.declared.low.SplitName.TheVariants.{Whole, Base, Delta}
use Rattle.homeo_meaning.specs.Key.{definitions}
use Rattle.homeo_meaning.specs.LowMeaning.{location_of}
use Rattle.homeo_split.specs.States.{state_with}

pub lengths : {A : Type 0} (f : A → List ℤ) (l : List A) → map (λ d. length (f d)) l ≡ map length (map f l)
lengths f [] = refl
lengths f (d ∷ ds) = ap (λ ns. length (f d) ∷ ns) (lengths f ds)

pub same_lengths : {A B : Type 0} (f : A → List ℤ) (g : B → List ℤ) (l : List A) (m : List B) → map f l ≡ map g m → map (λ d. length (f d)) l ≡ map (λ d. length (g d)) m
same_lengths f g l m e = lengths f l ∙ ap (map length) e ∙ sym (lengths g m)

pub without_temporaries : (base : List ℤ) (deltas : List (List ℤ)) (temps : Temp → ℤ) (x : SplitName) → state_with base deltas (λ t. pos 0) (location_of x) ≡ state_with base deltas temps (location_of x)
unfolding definitions
without_temporaries base deltas temps (Whole x) = refl
without_temporaries base deltas temps (Base x) = refl
without_temporaries base deltas temps (Delta x j) = refl
