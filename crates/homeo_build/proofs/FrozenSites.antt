-- Objects that are frozen at some sites, and their deltas there.
use Rattle.homeo_plan.specs.Key.{definitions as plan_definitions}
use Rattle.std.proofs.Common.{◌≡◌, ℕ, zero, suc, ◌+◌, ◌-◌, ◌<◌, ◌≤◌, ◌==◌, nat_lt, Bool, true, false, not, ◌||◌, ◌&&◌, List, [], ◌∷◌, ◌++◌, drop, get_or, length, refl, sym, ap, ap₂, ◌∙◌, add-one, append_assoc, append-nil, drop_of_length-le, arith}
use Rattle.std.specs.Prelude.{slice_index_or, if◌then◌else◌}
use Rattle.std.proofs.Math.Seq.{drop-cons}
use Rattle.std.proofs.lemmas.Bool.Decides.{nat_tests}
use Rattle.homeo_lemmas.proofs.Bools.{or_false}
use Rattle.homeo_lemmas.proofs.Naturals.{nat_is}
use Rattle.homeo_plan.specs.Each.{Each}
use Rattle.homeo_plan.specs.Linear.{AreInOrder, delta_before}
use Rattle.homeo_plan.specs.declared.forms.Delta.{Delta}
use Rattle.homeo_plan.proofs.DeltaLists.{has}
use Rattle.homeo_plan.proofs.Atoms.{append_each}
use Rattle.homeo_follow.proofs.Deltas.{has_append}
use Rattle.homeo_build.specs.declared.frozen.Frozen.{Frozen}
use Rattle.homeo_build.specs.declared.frozen.Frozen.TheVariants.{Nowhere}
use Rattle.homeo_build.specs.inner.Frozen.{frozen_at, frozen_sites, frozen_from}

abbrev at_site : ℕ → ℕ → Delta
at_site x j = record { object = x; site = j }

-- ---- the sites of one object, one after another
frozen_here : (j n x : ℕ) (f : Frozen) → frozen_at f j ≡ true → frozen_sites j (suc n) x f ≡ at_site x j ∷ frozen_sites (suc j) n x f
frozen_here j n x f e = ap (λ (b : Bool). if b then at_site x j ∷ frozen_sites (suc j) n x f else frozen_sites (suc j) n x f) e

not_here : (j n x : ℕ) (f : Frozen) → frozen_at f j ≡ false → frozen_sites j (suc n) x f ≡ frozen_sites (suc j) n x f
not_here j n x f e = ap (λ (b : Bool). if b then at_site x j ∷ frozen_sites (suc j) n x f else frozen_sites (suc j) n x f) e

pub nowhere : (j n x : ℕ) → frozen_sites j n x Nowhere ≡ []
nowhere j zero x = refl
nowhere j (suc n) x = nowhere (suc j) n x

module _ (x : ℕ) (f : Frozen) (k : ℕ) (out : List Delta) where
  pub sites_begin : out ++ frozen_sites 0 (k - 0) x f ≡ out ++ frozen_sites 0 k x f
  sites_begin = let p : k - 0 ≡ k = omega arith in ap (λ n. out ++ frozen_sites 0 n x f) p

  left_of : (j : ℕ) → j < k → k - j ≡ suc (k - (j + 1))
  left_of j h = omega (arith, h)

  rest_is : (j : ℕ) → frozen_sites (suc j) (k - (j + 1)) x f ≡ frozen_sites (j + 1) (k - (j + 1)) x f
  rest_is j = let next : suc j ≡ j + 1 = omega arith in ap (λ m. frozen_sites m (k - (j + 1)) x f) next

  pub sites_next :
      (j : ℕ) (more : List Delta) → j < k → frozen_at f j ≡ true → more ≡ out ++ record { object = x; site = j } ∷ [] →
      more ++ frozen_sites (j + 1) (k - (j + 1)) x f ≡ out ++ frozen_sites j (k - j) x f
  sites_next j more h e p =
      ap (λ l. l ++ frozen_sites (j + 1) (k - (j + 1)) x f) p
      ∙ append_assoc out (at_site x j ∷ []) (frozen_sites (j + 1) (k - (j + 1)) x f)
      ∙ ap (λ l. out ++ at_site x j ∷ l) (sym (rest_is j))
      ∙ ap (λ l. out ++ l) (sym (ap (λ n. frozen_sites j n x f) (left_of j h) ∙ frozen_here j (k - (j + 1)) x f e))

  pub sites_skip :
      (j : ℕ) (more : List Delta) → j < k → frozen_at f j ≡ false → more ≡ out →
      more ++ frozen_sites (j + 1) (k - (j + 1)) x f ≡ out ++ frozen_sites j (k - j) x f
  sites_skip j more h e p =
      ap (λ l. l ++ frozen_sites (j + 1) (k - (j + 1)) x f) p
      ∙ ap (λ l. out ++ l) (sym (ap (λ n. frozen_sites j n x f) (left_of j h) ∙ not_here j (k - (j + 1)) x f e ∙ rest_is j))

  pub sites_end : (j : ℕ) → k ≤ j → out ≡ out ++ frozen_sites j (k - j) x f
  sites_end j h = let none : k - j ≡ 0 = omega (arith, h) in sym (ap (λ n. out ++ frozen_sites j n x f) none ∙ append-nil out)

module _ (k : ℕ) where
  -- ---- one object after another
  pub objects_next :
      (fs : List Frozen) (out more : List Delta) (n : ℕ) (d : Frozen) → n < length fs →
      more ≡ out ++ frozen_sites 0 k n (get_or fs n d) → more ++ frozen_from k (n + 1) (drop (n + 1) fs) ≡ out ++ frozen_from k n (drop n fs)
  objects_next fs out more n d h p =
      let f : Frozen = get_or fs n d in
      let next : drop n fs ≡ f ∷ drop (n + 1) fs = rw add-one (drop-cons fs n d h) in
      let one : suc n ≡ n + 1 = omega arith in
      ap (λ l. l ++ frozen_from k (n + 1) (drop (n + 1) fs)) p
      ∙ append_assoc out (frozen_sites 0 k n f) (frozen_from k (n + 1) (drop (n + 1) fs))
      ∙ sym (ap (λ l. out ++ frozen_from k n l) next ∙ ap (λ m. out ++ (frozen_sites 0 k n f ++ frozen_from k m (drop (n + 1) fs))) one)

  pub objects_end : (fs : List Frozen) (out : List Delta) (n : ℕ) → length fs ≤ n → out ≡ out ++ frozen_from k n (drop n fs)
  objects_end fs out n h = sym (ap (λ l. out ++ frozen_from k n l) (drop_of_length-le fs h) ∙ append-nil out)

-- ---- which deltas there are
-- site i is one of n sites from j on
abbrev is_among : ℕ → ℕ → ℕ → Bool
is_among j zero i = false
is_among j (suc n) i = (i == j) || is_among (suc j) n i

among_is : (j n i : ℕ) → is_among j n i ≡ (not (nat_lt i j) && nat_lt i (j + n))
among_is j zero i = grind (arith, nat_tests)
among_is j (suc n) i = ap (λ b. (i == j) || b) (among_is (suc j) n i) ∙ here
  where
    here : ((i == j) || (not (nat_lt i (suc j)) && nat_lt i (suc j + n))) ≡ (not (nat_lt i j) && nat_lt i (j + suc n))
    here = grind (arith, nat_tests)

has_sites : (d : Delta) (j n x : ℕ) (f : Frozen) → has d (frozen_sites j n x f) ≡ ((d.object == x) && (is_among j n d.site && frozen_at f d.site))
unfolding plan_definitions
has_sites d j zero x f = none (d.object == x)
  where
    none : (b : Bool) → false ≡ (b && false)
    none true = refl
    none false = refl
has_sites d j (suc n) x f = go (frozen_at f j) refl (has_sites d (suc j) n x f) ∙ join (d.object == x) (d.site == j) (is_among (suc j) n d.site) (frozen_at f d.site) (frozen_at f j) here
  where
    here : (d.site == j) ≡ true → frozen_at f d.site ≡ frozen_at f j
    here h = ap (frozen_at f) (nat_is d.site j h)

    go :
        (v : Bool) → frozen_at f j ≡ v → has d (frozen_sites (suc j) n x f) ≡ ((d.object == x) && (is_among (suc j) n d.site && frozen_at f d.site)) →
        has d (frozen_sites j (suc n) x f) ≡
        (if v then ((d.object == x) && (d.site == j)) || ((d.object == x) && (is_among (suc j) n d.site && frozen_at f d.site))
        else ((d.object == x) && (is_among (suc j) n d.site && frozen_at f d.site)))
    go true e ih = ap (has d) (frozen_here j n x f e) ∙ ap (λ b. ((d.object == x) && (d.site == j)) || b) ih
    go false e ih = ap (has d) (not_here j n x f e) ∙ ih

    join :
        (o p w t v : Bool) → (p ≡ true → t ≡ v) → (if v then (o && p) || (o && (w && t)) else (o && (w && t))) ≡ (o && ((p || w) && t))
    join true true w t true h = sym (h refl)
    join true true true t false h = refl
    join true true false t false h = sym (h refl)
    join true false w t true h = refl
    join true false w t false h = refl
    join false p w t true h = refl
    join false p w t false h = refl

module _ (k : ℕ) where
  none_below : (d : Delta) (x : ℕ) (fs : List Frozen) → d.object < x → has d (frozen_from k x fs) ≡ false
  none_below d x [] h = refl
  none_below d x (f ∷ fs) h =
      has_append d (frozen_sites 0 k x f) (frozen_from k (suc x) fs)
      ∙ ap₂ ◌||◌ (has_sites d 0 k x f ∙ ap (λ b. b && (is_among 0 k d.site && frozen_at f d.site)) other) (none_below d (suc x) fs (omega (arith, h)))
    where
      other : (d.object == x) ≡ false
      other = grind (arith, nat_tests, h)

  has_from :
      (d : Delta) (x m : ℕ) (fs : List Frozen) → d.object ≡ x + m →
      has d (frozen_from k x fs) ≡ (nat_lt d.site k && frozen_at (slice_index_or fs m Nowhere) d.site)
  has_from d x m [] e = none (nat_lt d.site k)
    where
      none : (b : Bool) → false ≡ (b && false)
      none true = refl
      none false = refl
  has_from d x zero (f ∷ fs) e =
      has_append d (frozen_sites 0 k x f) (frozen_from k (suc x) fs)
      ∙ ap₂ ◌||◌ (has_sites d 0 k x f ∙ ap₂ (λ b c. b && (c && frozen_at f d.site)) here (among_is 0 k d.site ∙ below)) (none_below d (suc x) fs (omega (arith, e)))
      ∙ or_false (nat_lt d.site k && frozen_at f d.site)
    where
      here : (d.object == x) ≡ true
      here = grind (arith, nat_tests, e)

      below : (not (nat_lt d.site 0) && nat_lt d.site (0 + k)) ≡ nat_lt d.site k
      below = grind (arith, nat_tests)
  has_from d x (suc m) (f ∷ fs) e =
      has_append d (frozen_sites 0 k x f) (frozen_from k (suc x) fs)
      ∙ ap₂ ◌||◌ (has_sites d 0 k x f ∙ ap (λ b. b && (is_among 0 k d.site && frozen_at f d.site)) other) (has_from d (suc x) m fs (omega (arith, e)))
    where
      other : (d.object == x) ≡ false
      other = grind (arith, nat_tests, e)

  pub has_frozen : (d : Delta) (fs : List Frozen) → has d (frozen_from k 0 fs) ≡ (nat_lt d.site k && frozen_at (slice_index_or fs d.object Nowhere) d.site)
  has_frozen d fs = has_from d 0 d.object fs (omega arith)

-- ---- their order
abbrev After : Delta → List Delta → Type 0
After d ds = Each (λ e. delta_before d e ≡ true) ds

abbrev IsOver : ℕ → List Delta → Type 0
IsOver x ds = Each (λ e. x < e.object) ds

over_sites : (x y j n : ℕ) (f : Frozen) → x < y → IsOver x (frozen_sites j n y f)
unfolding plan_definitions
over_sites x y j zero f h = tt
over_sites x y j (suc n) f h = go (frozen_at f j) (over_sites x y (suc j) n f h)
  where
    go : (v : Bool) → IsOver x (frozen_sites (suc j) n y f) → IsOver x (if v then at_site y j ∷ frozen_sites (suc j) n y f else frozen_sites (suc j) n y f)
    go true r = (h, r)
    go false r = r

over_from : (k x y : ℕ) (fs : List Frozen) → x < y → IsOver x (frozen_from k y fs)
unfolding plan_definitions
over_from k x y [] h = tt
over_from k x y (f ∷ fs) h =
    append_each (λ e. x < e.object) (frozen_sites 0 k y f) (frozen_from k (suc y) fs) (over_sites x y 0 k f h) (over_from k x (suc y) fs (omega (arith, h)))

after_over : (x i : ℕ) (ds : List Delta) → IsOver x ds → After (at_site x i) ds
unfolding plan_definitions
after_over x i [] h = tt
after_over x i (d ∷ ds) h = (before h.0, after_over x i ds h.1)
  where
    before : x < d.object → delta_before (at_site x i) d ≡ true
    before l = grind (arith, nat_tests, l)

module _ (x : ℕ) (f : Frozen) (ds : List Delta) (over : IsOver x ds) where
  after_sites : (i j n : ℕ) → i < j → After (at_site x i) (frozen_sites j n x f ++ ds)
  unfolding plan_definitions
  after_sites i j zero h = after_over x i ds over
  after_sites i j (suc n) h = go (frozen_at f j) (after_sites i (suc j) n (omega (arith, h)))
    where
      before : delta_before (at_site x i) (at_site x j) ≡ true
      before = grind (arith, nat_tests, h)

      go :
          (v : Bool) → After (at_site x i) (frozen_sites (suc j) n x f ++ ds) →
          After (at_site x i) ((if v then at_site x j ∷ frozen_sites (suc j) n x f else frozen_sites (suc j) n x f) ++ ds)
      go true r = (before, r)
      go false r = r

  sites_in_order : (j n : ℕ) → AreInOrder ds → AreInOrder (frozen_sites j n x f ++ ds)
  unfolding plan_definitions
  sites_in_order j zero o = o
  sites_in_order j (suc n) o = go (frozen_at f j) (sites_in_order (suc j) n o)
    where
      go :
          (v : Bool) → AreInOrder (frozen_sites (suc j) n x f ++ ds) →
          AreInOrder ((if v then at_site x j ∷ frozen_sites (suc j) n x f else frozen_sites (suc j) n x f) ++ ds)
      go true r = (after_sites j (suc j) n (omega arith), r)
      go false r = r

pub frozen_in_order : (k x : ℕ) (fs : List Frozen) → AreInOrder (frozen_from k x fs)
unfolding plan_definitions
frozen_in_order k x [] = tt
frozen_in_order k x (f ∷ fs) =
    sites_in_order x f (frozen_from k (suc x) fs) (over_from k x (suc x) fs (omega arith)) 0 k (frozen_in_order k (suc x) fs)
