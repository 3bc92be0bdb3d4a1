-- The sums of a site's terms fit i128: the terms are on different objects, of which there are few, and factors and deltas are
-- small.
use Rattle.std.proofs.Common.{◌≡◌, ℕ, zero, suc, ◌+◌, ◌-◌, ◌*◌, ◌^◌, ◌<◌, ◌≤◌, ◌==◌, Bool, true, false, cond, List, [], ◌∷◌, take, ℤ, pos, ◌+ℤ◌, ◌*ℤ◌, All, refl, sym, ap, ◌∙◌, subst, arith, ⊎_elim}
use Rattle.std.specs.Int.{w128}
use Rattle.std.specs.Int.RustNames.{unsigned_abs}
use Rattle.std.proofs.lemmas.Int.{ints, unsigned_abs-mul, fits_signed_from_abs}
use Rattle.std.proofs.lemmas.Nat.{mul-le}
use Rattle.std.proofs.lemmas.Bool.{cases_lt}
use Rattle.std.proofs.lemmas.Bool.Decides.{nat_tests}
use Rattle.std.proofs.lemmas.List.Elements.{All-nil, All-cons}
use Rattle.homeo_lemmas.proofs.Integers.{times_zero}
use Rattle.homeo_lemmas.proofs.Naturals.{suc_times}
use Rattle.homeo_meaning.specs.Key.{definitions as meaning_definitions}
use Rattle.homeo_meaning.specs.Small.{IsSmall}
use Rattle.homeo_plan.specs.Key.{definitions as plan_definitions}
use Rattle.homeo_plan.specs.declared.forms.Delta.{Delta}
use Rattle.homeo_plan.specs.declared.forms.Term.{Term}
use Rattle.homeo_plan.specs.Each.{Each}
use Rattle.homeo_plan.specs.Joined.{Deltas}
use Rattle.homeo_plan.specs.Linear.{delta_before}
use Rattle.homeo_plan.proofs.Order.{Above, Sorted}
use Rattle.homeo_site.specs.Key.{definitions}
use Rattle.homeo_site.specs.OwnTreaty.{OwnTerm, own_terms, own_sum, SumsFit}
use Rattle.homeo_site.proofs.TemplateClauses.{factor_limit}

-- the objects rise, from m on
abbrev pub Rises : ℕ → List OwnTerm → Type 0
Rises m [] = Unit {0}
Rises m (t ∷ ts) = (m ≤ t.object) × Rises (suc t.object) ts

-- each factor is small
abbrev pub HasSmallFactors : List OwnTerm → Type 0
HasSmallFactors [] = Unit {0}
HasSmallFactors (t ∷ ts) = (unsigned_abs t.factor ≤ factor_limit) × HasSmallFactors ts

-- ---- a site's terms of terms in order
later : (d e : Delta) → d.site ≡ e.site → delta_before d e ≡ true → d.object < e.object
unfolding plan_definitions
later d e same h = grind (arith, nat_tests)

rises_above : (i : ℕ) (d : Delta) (ts : List Term) → d.site ≡ i → Above d ts → Sorted ts → Rises (suc d.object) (own_terms i ts)
unfolding definitions plan_definitions
rises_above i d [] here above sorted = tt
rises_above i d (t ∷ ts) here above sorted =
    go (t.delta.site == i) refl (λ e. rises_above i t.delta ts e sorted.0 sorted.1) (rises_above i d ts here above.1 sorted.1)
  where
    go :
        (v : Bool) → (t.delta.site == i) ≡ v → (t.delta.site ≡ i → Rises (suc t.delta.object) (own_terms i ts)) →
        Rises (suc d.object) (own_terms i ts) →
        Rises (suc d.object) (cond v (record { object = t.delta.object; factor = t.factor } ∷ own_terms i ts) (own_terms i ts))
    go true q next rest =
        let own : t.delta.site ≡ i = grind (arith, nat_tests) in
        let up : d.object < t.delta.object = later d t.delta (here ∙ sym own) above.0 in
        (omega arith, next own)
    go false q next rest = rest

pub own_rises : (i : ℕ) (ts : List Term) → Sorted ts → Rises 0 (own_terms i ts)
unfolding definitions plan_definitions
own_rises i [] sorted = tt
own_rises i (t ∷ ts) sorted = go (t.delta.site == i) refl (own_rises i ts sorted.1)
  where
    go :
        (v : Bool) → (t.delta.site == i) ≡ v → Rises 0 (own_terms i ts) →
        Rises 0 (cond v (record { object = t.delta.object; factor = t.factor } ∷ own_terms i ts) (own_terms i ts))
    go true q rest =
        let own : t.delta.site ≡ i = grind (arith, nat_tests) in
        (omega arith, rises_above i t.delta ts own sorted.0 sorted.1)
    go false q rest = rest

pub own_factors : (i : ℕ) (ts : List Term) → Each (λ t. IsSmall factor_limit t.factor) ts → HasSmallFactors (own_terms i ts)
unfolding definitions plan_definitions meaning_definitions
own_factors i [] h = tt
own_factors i (t ∷ ts) h = go (t.delta.site == i) (own_factors i ts h.1)
  where
    go :
        (v : Bool) → HasSmallFactors (own_terms i ts) →
        HasSmallFactors (cond v (record { object = t.delta.object; factor = t.factor } ∷ own_terms i ts) (own_terms i ts))
    go true rest = (h.0, rest)
    go false rest = rest

rises_less : (l m : ℕ) (ts : List OwnTerm) → l ≤ m → Rises m ts → Rises l ts
rises_less l m [] le h = tt
rises_less l m (t ∷ ts) le h = (omega (arith, h.0), h.1)

take_rises : (m k : ℕ) (ts : List OwnTerm) → Rises m ts → Rises m (take k ts)
take_rises m zero ts h = tt
take_rises m (suc k) [] h = tt
take_rises m (suc k) (t ∷ ts) h = (h.0, take_rises (suc t.object) k ts h.1)

take_factors : (k : ℕ) (ts : List OwnTerm) → HasSmallFactors ts → HasSmallFactors (take k ts)
take_factors zero ts h = tt
take_factors (suc k) [] h = tt
take_factors (suc k) (t ∷ ts) h = (h.0, take_factors k ts h.1)

-- ---- sums
module _ (n size : ℕ) (x : Deltas) (small : (m : ℕ) → unsigned_abs (x m) ≤ size) (past : (m : ℕ) → n ≤ m → x m ≡ pos 0) where
  abbrev most : ℕ
  most = factor_limit * size

  product_small : (f : ℤ) (m : ℕ) → unsigned_abs f ≤ factor_limit → unsigned_abs (f *ℤ x m) ≤ most
  product_small f m h =
      subst (λ z. z ≤ most) (sym (unsigned_abs-mul f (x m))) (mul-le (unsigned_abs f) (unsigned_abs (x m)) factor_limit size h (small m))

  abs_add : (a b : ℤ) → unsigned_abs (a +ℤ b) ≤ unsigned_abs a + unsigned_abs b
  abs_add a b = grind (arith, ints)

  one_more :
      (m : ℕ) (t : OwnTerm) (ts : List OwnTerm) → m ≤ t.object → unsigned_abs t.factor ≤ factor_limit →
      unsigned_abs (own_sum ts x) ≤ (n - suc t.object) * most →
      unsigned_abs ((t.factor *ℤ x t.object) +ℤ own_sum ts x) ≤ (n - m) * most
  one_more m t ts le f rest = ⊎_elim there beyond (cases_lt t.object n)
    where
      add : unsigned_abs ((t.factor *ℤ x t.object) +ℤ own_sum ts x) ≤ unsigned_abs (t.factor *ℤ x t.object) + unsigned_abs (own_sum ts x)
      add = abs_add (t.factor *ℤ x t.object) (own_sum ts x)

      there : t.object < n → unsigned_abs ((t.factor *ℤ x t.object) +ℤ own_sum ts x) ≤ (n - m) * most
      there lt =
          let one : unsigned_abs (t.factor *ℤ x t.object) ≤ most = product_small t.factor t.object f in
          let room : suc (n - suc t.object) * most ≤ (n - m) * most =
          mul-le (suc (n - suc t.object)) most (n - m) most (omega arith) (omega arith) in
          let split : suc (n - suc t.object) * most ≡ most + (n - suc t.object) * most = suc_times (n - suc t.object) most in
          omega (arith, add, one, rest, room, split)

      beyond : n ≤ t.object → unsigned_abs ((t.factor *ℤ x t.object) +ℤ own_sum ts x) ≤ (n - m) * most
      beyond le =
          let none : t.factor *ℤ x t.object ≡ pos 0 = ap (λ z. t.factor *ℤ z) (past t.object le) ∙ times_zero t.factor in
          let size : unsigned_abs (t.factor *ℤ x t.object) ≡ 0 = ap unsigned_abs none in
          let room : (n - suc t.object) * most ≤ (n - m) * most = mul-le (n - suc t.object) most (n - m) most (omega arith) (omega arith) in
          omega (arith, add, size, rest, room)

  sum_small : (m : ℕ) (ts : List OwnTerm) → Rises m ts → HasSmallFactors ts → unsigned_abs (own_sum ts x) ≤ (n - m) * most
  unfolding definitions
  sum_small m [] r f = omega arith
  sum_small m (t ∷ ts) r f = one_more m t ts r.0 f.0 (sum_small (suc t.object) ts r.1 f.1)

  each_product : (ts : List OwnTerm) → HasSmallFactors ts → All (λ t. unsigned_abs (t.factor *ℤ x t.object) ≤ most) ts
  each_product [] f = All-nil (λ (t : OwnTerm). unsigned_abs (t.factor *ℤ x t.object) ≤ most)
  each_product (t ∷ ts) f =
      All-cons (λ (t : OwnTerm). unsigned_abs (t.factor *ℤ x t.object) ≤ most) t ts (product_small t.factor t.object f.0) (each_product ts f.1)

-- sums of deltas of at most 2 * 10^12 in size, of at most 1,024 objects
pub sums_fit :
    (n : ℕ) (x : Deltas) (ts : List OwnTerm) → n ≤ 1024 → ((m : ℕ) → unsigned_abs (x m) ≤ 2 * 10 ^ 12) →
    ((m : ℕ) → n ≤ m → x m ≡ pos 0) → Rises 0 ts → HasSmallFactors ts → SumsFit ts x
sums_fit n x ts few small past rises factors =
    record {
      products = λ k d lt.
          fits_signed_from_abs w128 _ (below _ (omega (arith, each_product n (2 * 10 ^ 12) x small past ts factors k d lt)));
      sums = λ k. fits_signed_from_abs w128 _ (below (unsigned_abs (own_sum (take k ts) x)) (all k));
    }
  where
    below : (z : ℕ) → z ≤ 1024 * (factor_limit * (2 * 10 ^ 12)) → z < 2 ^ 127
    below z h = omega arith

    all : (k : ℕ) → unsigned_abs (own_sum (take k ts) x) ≤ 1024 * (factor_limit * (2 * 10 ^ 12))
    all k =
        let h : unsigned_abs (own_sum (take k ts) x) ≤ (n - 0) * (factor_limit * (2 * 10 ^ 12)) =
        sum_small n (2 * 10 ^ 12) x small past 0 (take k ts) (take_rises 0 k ts rises) (take_factors k ts factors) in
        let room : (n - 0) * (factor_limit * (2 * 10 ^ 12)) ≤ 1024 * (factor_limit * (2 * 10 ^ 12)) =
        mul-le (n - 0) (factor_limit * (2 * 10 ^ 12)) 1024 (factor_limit * (2 * 10 ^ 12)) (omega arith) (omega arith) in
        omega (arith, h, room)
