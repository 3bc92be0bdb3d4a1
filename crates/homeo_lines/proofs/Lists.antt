-- Lists that are read item by item.
use Rattle.std.proofs.Common.{◌≡◌, ℕ, zero, suc, ◌+◌, ◌<◌, ◌≤◌, List, [], ◌∷◌, ◌++◌, map, length, drop, get_or, Option, Some, None, option_map, option_and_then, refl, sym, ap, ◌∙◌, subst, arith, add-one, append_assoc, append-nil}
use Rattle.std.proofs.lemmas.List.{map-append, length-map}
use Rattle.serde_json.specs.Data.{Data}
use Rattle.serde_json.specs.View.{items_of}
use Rattle.homeo_lemmas.proofs.Lists.{drop_past}
use Rattle.homeo_lines.specs.Members.{list_of, each_from}

pub list_of-items_of : (ds : List Data) → list_of (items_of ds) ≡ ds
list_of-items_of [] = refl
list_of-items_of (d ∷ ds) = ap (λ xs. d ∷ xs) (list_of-items_of ds)

-- the first of the values, so many, are read as these
pub record AreFirst {A B V : Type 0} (f : ℕ → A → Option B) (see : V → A) (vs : List V) (i : ℕ) (done : List B) : Type 0 where
  pub is : each_from f 0 (map see vs) ≡ option_map (λ ys. done ++ ys) (each_from f i (map see (drop i vs)))

append_nothing : {B : Type 0} (o : Option (List B)) → o ≡ option_map (λ ys. [] ++ ys) o
append_nothing None = refl
append_nothing (Some ys) = refl

append_more : {B : Type 0} (done : List B) (y : B) (o : Option (List B)) → option_map (λ ys. done ++ ys) (option_map (λ ys. y ∷ ys) o) ≡ option_map (λ ys. (done ++ y ∷ []) ++ ys) o
append_more done y None = refl
append_more done y (Some ys) = ap Some (sym (append_assoc done (y ∷ []) ys))

pub next : {V : Type 0} (vs : List V) (i : ℕ) (v : V) → i < length vs → v ≡ get_or vs i v → drop i vs ≡ v ∷ drop (suc i) vs
next [] i v l e = absurd (omega (arith, l))
next (w ∷ vs) zero v l e = ap (λ u. u ∷ vs) (sym e)
next (w ∷ vs) (suc i) v l e = next vs i v (omega (arith, l)) e

pub first_none : {A B V : Type 0} (f : ℕ → A → Option B) (see : V → A) (vs : List V) → AreFirst f see vs 0 []
first_none f see vs = record { is = append_nothing (each_from f 0 (map see vs)) }

pub first_more :
    {A B V : Type 0} (f : ℕ → A → Option B) (see : V → A) (vs : List V) (i : ℕ) (v : V) (done : List B) (y : B) → i < length vs → v ≡ get_or vs i v →
    f i (see v) ≡ Some y → AreFirst f see vs i done → AreFirst f see vs (i + 1) (done ++ y ∷ [])
first_more f see vs i v done y l e r h =
    subst (λ j. AreFirst f see vs j (done ++ y ∷ [])) (sym (add-one i))
    (record {
      is =
          h.is ∙ ap (λ ws. option_map (λ ys. done ++ ys) (each_from f i (map see ws))) (next vs i v l e)
          ∙ ap (λ o. option_map (λ ys. done ++ ys) (option_and_then (λ z. option_map (λ ys. z ∷ ys) (each_from f (suc i) (map see (drop (suc i) vs)))) o)) r
          ∙ append_more done y (each_from f (suc i) (map see (drop (suc i) vs)));
    })

-- those that are seen
pub first_seen :
    {A B C V : Type 0} (f : ℕ → A → Option B) (see : V → A) (plain : C → B) (vs : List V) (i : ℕ) (v : V) (done : List C) (y : C) → i < length vs →
    v ≡ get_or vs i v → f i (see v) ≡ Some (plain y) → AreFirst f see vs i (map plain done) → AreFirst f see vs (i + 1) (map plain (done ++ y ∷ []))
first_seen f see plain vs i v done y l e r h =
    subst (AreFirst f see vs (i + 1)) (sym (map-append plain done (y ∷ []))) (first_more f see vs i v (map plain done) (plain y) l e r h)

pub first_stops :
    {A B V : Type 0} (f : ℕ → A → Option B) (see : V → A) (vs : List V) (i : ℕ) (v : V) (done : List B) → i < length vs → v ≡ get_or vs i v →
    f i (see v) ≡ None → AreFirst f see vs i done → None ≡ each_from f 0 (map see vs)
first_stops f see vs i v done l e r h =
    sym
    (h.is ∙ ap (λ ws. option_map (λ ys. done ++ ys) (each_from f i (map see ws))) (next vs i v l e)
    ∙ ap (λ o. option_map (λ ys. done ++ ys) (option_and_then (λ z. option_map (λ ys. z ∷ ys) (each_from f (suc i) (map see (drop (suc i) vs)))) o)) r)

pub first_all :
    {A B V : Type 0} (f : ℕ → A → Option B) (see : V → A) (vs : List V) (i : ℕ) (done : List B) → length vs ≤ i → AreFirst f see vs i done →
    Some done ≡ each_from f 0 (map see vs)
first_all f see vs i done l h =
    sym (h.is ∙ ap (λ ws. option_map (λ ys. done ++ ys) (each_from f i (map see ws))) (drop_past vs i l) ∙ ap Some (append-nil done))

pub ruleset list_steps = (list_of-items_of, length-map, first_none, first_more, first_seen, first_stops, first_all)
