-- The deltas of the other sites: each once.
use Rattle.homeo_plan.specs.Key.{definitions}
use Rattle.std.proofs.Common.{◌≡◌, ℕ, zero, suc, ◌==◌, ◌<◌, ◌≤◌, Bool, true, false, cond, ℤ, pos, ◌+ℤ◌, ◌≤ℤ◌, refl, sym, ap, ◌∙◌, subst, arith}
use Rattle.std.specs.Int.RustNames.{unsigned_abs}
use Rattle.std.proofs.lemmas.Int.{ints}
use Rattle.std.proofs.lemmas.Bool.Decides.{nat_tests}
use Rattle.homeo_lemmas.proofs.Integers.{is_zero_plus}
use Rattle.homeo_plan.specs.declared.forms.Delta.{Delta}
use Rattle.homeo_plan.specs.Linear.{delta_of, same_delta, Linear}
use Rattle.homeo_plan.proofs.Factors.{same_delta_is, at_delta, factor}
use Rattle.homeo_plan.proofs.Order.{Sorted}
use Rattle.homeo_plan.proofs.Sizes.{Within}

-- of n sites from j on, how often the delta is that of x at a site other than i
abbrev pub others_from : ℕ → ℕ → ℕ → ℕ → Delta → ℤ
unfolding definitions
others_from i x j zero d = pos 0
others_from i x j (suc n) d = cond (i == j) (pos 0) (at_delta (delta_of x j) (pos 1) d) +ℤ others_from i x (suc j) n d

pub record IsBit (z : ℤ) : Type 0 where
  pub low : pos 0 ≤ℤ z
  pub high : z ≤ℤ pos 1

zero_bit : IsBit (pos 0)
zero_bit = record { low = grind (arith, ints); high = grind (arith, ints) }

not_behind : (x j : ℕ) (d : Delta) → d.site < j → same_delta (delta_of x j) d ≡ false
unfolding definitions
not_behind x j d h = grind (arith, nat_tests)

none_behind : (i x j n : ℕ) (d : Delta) → d.site < j → others_from i x j n d ≡ pos 0
unfolding definitions
none_behind i x j zero d h = refl
none_behind i x j (suc n) d h =
    let rest = none_behind i x (suc j) n d (omega (arith, h)) in
    go (i == j) (same_delta (delta_of x j) d) (not_behind x j d h) rest
  where
    go : (u v : Bool) → v ≡ false → others_from i x (suc j) n d ≡ pos 0 → cond u (pos 0) (cond v (pos 1) (pos 0)) +ℤ others_from i x (suc j) n d ≡ pos 0
    go true v q ih = omega (arith, ints, ih)
    go false v q ih = ap (λ w. cond w (pos 1) (pos 0) +ℤ others_from i x (suc j) n d) q ∙ omega (arith, ints, ih)

pub others_bit : (i x j n : ℕ) (d : Delta) → IsBit (others_from i x j n d)
unfolding definitions
others_bit i x j zero d = zero_bit
others_bit i x j (suc n) d = go (i == j) (same_delta (delta_of x j) d) refl (others_bit i x (suc j) n d)
  where
    one : (z : ℤ) → z ≡ pos 0 → IsBit (pos 1 +ℤ z)
    one z q = subst (λ y. IsBit (pos 1 +ℤ y)) (sym q) (record { low = grind (arith, ints); high = grind (arith, ints) })

    go :
        (u v : Bool) → same_delta (delta_of x j) d ≡ v → IsBit (others_from i x (suc j) n d) →
        IsBit (cond u (pos 0) (cond v (pos 1) (pos 0)) +ℤ others_from i x (suc j) n d)
    go true v q ih = subst IsBit (is_zero_plus (others_from i x (suc j) n d)) ih
    go false true q ih =
        let e : j ≡ d.site = ap (λ s. s.site) (same_delta_is (delta_of x j) d q) in
        one (others_from i x (suc j) n d) (none_behind i x (suc j) n d (omega (arith, e)))
    go false false q ih = subst IsBit (is_zero_plus (others_from i x (suc j) n d)) ih

-- the own delta is none of them
pub none_own : (i x j n : ℕ) (d : Delta) → same_delta (delta_of x i) d ≡ true → others_from i x j n d ≡ pos 0
unfolding definitions
none_own i x j zero d h = refl
none_own i x j (suc n) d h = go (i == j) refl (same_delta (delta_of x j) d) refl (none_own i x (suc j) n d h)
  where
    go :
        (u : Bool) → (i == j) ≡ u → (v : Bool) → same_delta (delta_of x j) d ≡ v → others_from i x (suc j) n d ≡ pos 0 →
        cond u (pos 0) (cond v (pos 1) (pos 0)) +ℤ others_from i x (suc j) n d ≡ pos 0
    go true p v q ih = omega (arith, ints, ih)
    go false p true q ih =
        let e : j ≡ d.site = ap (λ s. s.site) (same_delta_is (delta_of x j) d q) in
        let e' : i ≡ d.site = ap (λ s. s.site) (same_delta_is (delta_of x i) d h) in
        absurd (differ (e' ∙ sym e))
      where
        differ : i ≡ j → ⊥
        differ s = grind (arith, nat_tests)
    go false p false q ih = omega (arith, ints, ih)

-- ---- a form with this constant and these factors
pub record Shape (z : ℤ) (g : Delta → ℤ) (a : Linear) : Type 0 where
  pub constant : a.constant ≡ z
  pub factors : (d : Delta) → factor d a.terms ≡ g d
  pub sorted : Sorted a.terms

pub shape_within : (n : ℕ) (z : ℤ) (g : Delta → ℤ) (a : Linear) → Shape z g a → unsigned_abs z ≤ n → ((d : Delta) → unsigned_abs (g d) ≤ n) → Within n a
shape_within n z g a s h k =
    record {
      constant = subst (λ y. unsigned_abs y ≤ n) (sym s.constant) h;
      factors = λ d. subst (λ y. unsigned_abs y ≤ n) (sym (s.factors d)) (k d);
      sorted = s.sorted;
    }
