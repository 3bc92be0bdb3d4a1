-- What a change of the code's lists is as a change of the state.
use Rattle.std.proofs.Common.{◌≡◌, ℕ, zero, suc, ◌<◌, ◌==◌, ℤ, pos, Bool, true, false, cond, ◌&&◌, List, [], ◌∷◌, map, set, length, get_or, refl, sym, ap, ◌∙◌, subst, arith, SFits, w64, to_z, of_z}
use Rattle.std.proofs.Math.Seq.{map-set_same}
use Rattle.std.proofs.lemmas.List.{get_or-map, length-map, length-set, map-set}
use Rattle.std.proofs.lemmas.Bool.Decides.{nat_tests}
use Rattle.std.proofs.lemmas.Int.{to_z-of_z}
use Rattle.homeo_syntax.specs.declared.low.Temp.{Temp}
use Rattle.homeo_syntax.specs.declared.low.Temp.TheVariants.{Named, Fresh}
use Rattle.homeo_syntax.specs.declared.low.SplitName.TheVariants.{Base, Delta}
use Rattle.homeo_meaning.specs.Key.{definitions}
use Rattle.homeo_meaning.specs.LowMeaning.{State, Location, TempAt, BaseAt, DeltaAt, same_temp, put}
use Rattle.homeo_meaning.specs.Windowed.{item_at}
use Rattle.homeo_meaning.proofs.AbsentItems.{padded_set}
use Rattle.homeo_split.specs.Key.{definitions as split_definitions}
use Rattle.homeo_split.specs.States.{temps_of, state_with}
use Rattle.homeo_split.specs.declared.temporaries.Temporaries.{Temporaries}
use Rattle.homeo_split.specs.Shape.{Shape, has_place}

-- temporaries that differ from others by one are the others with that one set
pub set_temps : (s z : Temporaries) {t w : Temp} → t ≡ w → (v : ℤ) → SFits w64 v → ((m : ℕ) → item_at z.named m (pos 0) ≡ cond (same_temp w (Named m)) (to_z w64 (of_z w64 v)) (item_at s.named m (pos 0))) → ((m : ℕ) → item_at z.fresh m (pos 0) ≡ cond (same_temp w (Fresh m)) (to_z w64 (of_z w64 v)) (item_at s.fresh m (pos 0))) → (u : Temp) → temps_of z u ≡ cond (same_temp t u) v (temps_of s u)
unfolding split_definitions
set_temps s z is v fits named fresh (Named m) = named m ∙ (λ i. cond (same_temp (sym is i) (Named m)) (to_z-of_z w64 v fits i) (item_at s.named m (pos 0)))
set_temps s z is v fits named fresh (Fresh m) = fresh m ∙ (λ i. cond (same_temp (sym is i) (Fresh m)) (to_z-of_z w64 v fits i) (item_at s.fresh m (pos 0)))

-- a state that differs from another by one temporary is the other with that one set
module _ (s u : State) (t : Temp) (v : ℤ) (fits : SFits w64 v) (temps : (w : Temp) → u (TempAt w) ≡ cond (same_temp t w) (to_z w64 (of_z w64 v)) (s (TempAt w))) (bases : (x : ℕ) → u (BaseAt x) ≡ s (BaseAt x)) (deltas : (x j : ℕ) → u (DeltaAt x j) ≡ s (DeltaAt x j)) where
  temp_at : (q : Location) → u q ≡ put s (TempAt t) v q
  unfolding definitions
  temp_at (TempAt w) = temps w ∙ ap (λ v. cond (same_temp t w) v (s (TempAt w))) (to_z-of_z w64 v fits)
  temp_at (BaseAt x) = bases x
  temp_at (DeltaAt x j) = deltas x j

  pub set_temp : u ≡ put s (TempAt t) v
  set_temp = λ i q. temp_at q i

module _ (base : List ℤ) (deltas : List (List ℤ)) (temps : Temp → ℤ) (x : ℕ) (v : ℤ) where
  base_at : x < length base → (q : Location) → state_with (set base x v) deltas temps q ≡ put (state_with base deltas temps) (BaseAt x) v q
  unfolding definitions
  base_at h (TempAt t) = refl
  base_at h (BaseAt y) = padded_set base x v (pos 0) y h
  base_at h (DeltaAt y k) = refl

  pub set_base : x < length base → state_with (set base x v) deltas temps ≡ put (state_with base deltas temps) (BaseAt x) v
  set_base h = λ i q. base_at h q i

both_tests : (a b : Bool) (u w : ℤ) → cond b (cond a u w) w ≡ cond (a && b) u w
both_tests true true u w = refl
both_tests true false u w = refl
both_tests false true u w = refl
both_tests false false u w = refl

-- a delta of the site that is written, and one of another
site_case : (deltas : List (List ℤ)) (x j y k : ℕ) (v : ℤ) (b : Bool) → (j == k) ≡ b → x < length (get_or deltas j []) → get_or (cond b (set (get_or deltas j []) x v) (get_or deltas k [])) y (pos 0) ≡ cond b (cond (x == y) v (get_or (get_or deltas k []) y (pos 0))) (get_or (get_or deltas k []) y (pos 0))
site_case deltas x j y k v true e h =
    let same : j ≡ k = grind (arith, nat_tests) in
    padded_set (get_or deltas j []) x v (pos 0) y h ∙ ap (λ l. cond (x == y) v (get_or (get_or deltas l []) y (pos 0))) same
site_case deltas x j y k v false e h = refl

module _ (base : List ℤ) (deltas : List (List ℤ)) (temps : Temp → ℤ) (x j : ℕ) (v : ℤ) where
  delta_at : j < length deltas → x < length (get_or deltas j []) → (q : Location) → state_with base (set deltas j (set (get_or deltas j []) x v)) temps q ≡ put (state_with base deltas temps) (DeltaAt x j) v q
  unfolding definitions
  delta_at s h (TempAt t) = refl
  delta_at s h (BaseAt y) = refl
  delta_at s h (DeltaAt y k) =
      ap (λ l. get_or l y (pos 0)) (padded_set deltas j (set (get_or deltas j []) x v) [] k s)
      ∙ site_case deltas x j y k v (j == k) refl h
      ∙ both_tests (x == y) (j == k) v (get_or (get_or deltas k []) y (pos 0))

  pub set_delta : j < length deltas → x < length (get_or deltas j []) → state_with base (set deltas j (set (get_or deltas j []) x v)) temps ≡ put (state_with base deltas temps) (DeltaAt x j) v
  set_delta s h = λ i q. delta_at s h q i

-- ---- the places that are there
pub has_base : (h : Shape) (x : ℕ) → has_place h (Base x) ≡ true → x < h.base
unfolding split_definitions
has_base h x p = grind (arith, nat_tests)

site_there : {A : Type 0} (g : A → ℕ) (l : List A) (x j : ℕ) → x < get_or (map g l) j 0 → j < length l
site_there g [] x zero h = omega arith
site_there g [] x (suc j) h = omega arith
site_there g (a ∷ l) x zero h = omega arith
site_there g (a ∷ l) x (suc j) h = let k = site_there g l x j h in omega arith

-- the numbers of a site are there
module _ {A : Type 0} (f : A → List ℤ) (l : List A) (x j base : ℕ) (has : has_place (record { base = base; deltas = map (λ d. length (f d)) l }) (Delta x j) ≡ true) where
  counted : x < get_or (map (λ d. length (f d)) l) j 0
  unfolding split_definitions
  counted = grind (arith, nat_tests, has)

  pub site_is : j < length l
  site_is = site_there (λ d. length (f d)) l x j counted

  pub object_is : (here : A) → here ≡ get_or l j here → x < length (f here)
  object_is here is = subst (λ n. x < n) (get_or-map (λ d. length (f d)) l j here 0 site_is ∙ sym (ap (λ d. length (f d)) is)) counted

-- one of the numbers of a site is changed
module _ {A : Type 0} (f : A → List ℤ) (l : List A) (x j : ℕ) (here : A) (is : here ≡ get_or l j here) (new : A) (v : ℤ) (changed : f new ≡ set (f here) x v) where
  pub same_lengths : map (λ d. length (f d)) (set l j new) ≡ map (λ d. length (f d)) l
  same_lengths = map-set_same (λ d. length (f d)) l j new here (ap length changed ∙ length-set (f here) x v ∙ ap (λ d. length (f d)) is)

pub set_site : {A : Type 0} (f : A → List ℤ) (l : List A) (x j base : ℕ) → has_place (record { base = base; deltas = map (λ d. length (f d)) l }) (Delta x j) ≡ true → (here : A) → here ≡ get_or l j here → (new : A) (v : ℤ) → f new ≡ set (f here) x v → (values : List ℤ) (temps : Temp → ℤ) → state_with values (map f (set l j new)) temps ≡ put (state_with values (map f l) temps) (DeltaAt x j) v
set_site f l x j base has here is new v changed values temps =
    let there = site_is f l x j base has in
    let list_is : f here ≡ get_or (map f l) j [] = ap f is ∙ sym (get_or-map f l j here [] there) in
    let lists = map-set f l j new ∙ ap (set (map f l) j) (changed ∙ ap (λ d. set d x v) list_is) in
    let sites : j < length (map f l) = subst (λ n. j < n) (sym (length-map l f)) there in
    let objects : x < length (get_or (map f l) j []) = subst (λ d. x < length d) list_is (object_is f l x j base has here is) in
    ap (λ ds. state_with values ds temps) lists ∙ set_delta values (map f l) temps x j v sites objects
