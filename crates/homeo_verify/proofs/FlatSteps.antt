-- Faults of items that are looked at one after another.
use Rattle.std.proofs.Common.{◌≡◌, ℕ, zero, suc, ◌+◌, ◌<◌, ◌≤◌, List, [], ◌∷◌, ◌++◌, drop, get_or, length, refl, sym, ap, ◌∙◌, subst, add-one, drop_of_length-le, arith}
use Rattle.std.specs.List.{flat_map}
use Rattle.std.proofs.Math.Seq.{drop-cons}
use Rattle.std.proofs.lemmas.List.Concat.{flat_map-append}
use Rattle.homeo_plan.specs.Key.{definitions as plan_definitions}
use Rattle.homeo_plan.specs.Each.{Each}
use Rattle.homeo_certificate.specs.declared.fault.Fault.{Fault}
use Rattle.homeo_verify.specs.declared.stop.Stop.{Stop}
use Rattle.homeo_verify.specs.inner.Stops.{StopsAt}
use Rattle.homeo_verify.proofs.Stopping.{stop_sooner}

module _ {X : Type 0} (f : X → List Fault) (xs : List X) (i : ℕ) where
  -- the items so far have no faults
  abbrev pub FlatSoFar : Type 0
  FlatSoFar = flat_map f (drop i xs) ≡ flat_map f xs

  module _ (x z : X) (l : i < length xs) (e : x ≡ get_or xs i z) (so : FlatSoFar) where
    split : f x ++ flat_map f (drop (i + 1) xs) ≡ flat_map f xs
    split =
        let front : drop i xs ≡ x ∷ drop (i + 1) xs = rw add-one (drop-cons xs i z l ∙ ap (λ y. y ∷ drop (suc i) xs) (sym e)) in
        sym (ap (flat_map f) front) ∙ so

    pub flat_stops : (s : Stop) → StopsAt (f x) s → StopsAt (flat_map f xs) s
    flat_stops s h = subst (λ fs. StopsAt fs s) split (stop_sooner (f x) (flat_map f (drop (i + 1) xs)) s h)

    pub flat_goes_on : f x ≡ [] → flat_map f (drop (i + 1) xs) ≡ flat_map f xs
    flat_goes_on h = ap (λ fs. fs ++ flat_map f (drop (i + 1) xs)) (sym h) ∙ split

  pub flat_ends : length xs ≤ i → FlatSoFar → flat_map f xs ≡ []
  flat_ends l so = sym so ∙ ap (flat_map f) (drop_of_length-le xs l)

-- the faults of lists of items
pub flat_twice : {X Y : Type 0} (f : Y → List Fault) (g : X → List Y) (xs : List X) → flat_map (λ x. flat_map f (g x)) xs ≡ flat_map f (flat_map g xs)
flat_twice f g [] = refl
flat_twice f g (x ∷ xs) =
    ap (λ fs. flat_map f (g x) ++ fs) (flat_twice f g xs) ∙ sym (flat_map-append f (g x) (flat_map g xs))

pub each_here : {X : Type 0} (P : X → Type 0) (xs : List X) (i : ℕ) (x : X) → i < length xs → x ≡ get_or xs i x → Each P xs → P x
unfolding plan_definitions
each_here P [] i x l e h = absurd (omega (arith, l))
each_here P (y ∷ ys) zero x l e h = subst P (sym e) h.0
each_here P (y ∷ ys) (suc i) x l e h = each_here P ys i x (omega (arith, l)) e h.1
