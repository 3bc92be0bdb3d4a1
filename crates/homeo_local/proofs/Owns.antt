-- What changes of a site's lists are as changes of its state, where a run begins, and what it leaves.
use Rattle.std.proofs.Common.{◌≡◌, ◌⊎◌, inl, inr, ℕ, ◌<◌, ◌==◌, eqb, ℤ, pos, ◌+ℤ◌, ◌-ℤ◌, neg_ℤ, Bool, true, false, cond, List, set, length, FitsSigned, w64, refl, sym, ap, ◌∙◌, subst, arith}
use Rattle.std.specs.Int.{int_wrap}
use Rattle.std.specs.List.{list_any, dedup}
use Rattle.std.proofs.Math.IntN.{+ℤ_comm, +ℤ-neg_ℤ_cancel, -ℤ-+ℤ_cancel}
use Rattle.std.proofs.lemmas.Bool.{eqb-true, false≢true}
use Rattle.std.proofs.lemmas.Bool.Decides.{nat_tests}
use Rattle.std.proofs.lemmas.Cmp.{nat_eq_equiv}
use Rattle.std.proofs.lemmas.Int.{int_wrap_fits, int_wrap-add_left, int_wrap-add_right}
use Rattle.std.proofs.lemmas.List.Folds.{Any-from_list_any, list_any-from_Any}
use Rattle.std.proofs.lemmas.List.Kept.{Any-dedup}
use Rattle.homeo_syntax.specs.declared.low.Temp.{Temp}
use Rattle.homeo_meaning.specs.Key.{definitions}
use Rattle.homeo_meaning.specs.LowMeaning.{Location, TempAt, BaseAt, DeltaAt, put, whole}
use Rattle.homeo_meaning.specs.Serial.{values_of}
use Rattle.homeo_meaning.proofs.AbsentItems.{padded_set}
use Rattle.homeo_local.specs.OwnValues.{own_values}
use Rattle.homeo_local.specs.inner.Own.{own_with}

-- ---- an object is written
-- what is taken off comes back
made_up : (b v : ℤ) → FitsSigned w64 v → int_wrap w64 (b +ℤ int_wrap w64 (v -ℤ b)) ≡ v
made_up b v f = int_wrap-add_right w64 b (v -ℤ b) ∙ ap (int_wrap w64) (+ℤ_comm b (v -ℤ b) ∙ -ℤ-+ℤ_cancel v b) ∙ int_wrap_fits w64 v f

module _ (base deltas : List ℤ) (x : ℕ) (v : ℤ) (there : x < length deltas) where
  here : (y : ℕ) (b : Bool) → (x == y) ≡ b → FitsSigned w64 v → int_wrap w64 (values_of base y +ℤ cond b (int_wrap w64 (v -ℤ values_of base x)) (values_of deltas y)) ≡ cond b v (int_wrap w64 (own_values base deltas y))
  here y true e f =
      let same : x ≡ y = grind (arith, nat_tests) in
      ap (λ z. int_wrap w64 (values_of base y +ℤ int_wrap w64 (v -ℤ values_of base z))) same ∙ made_up (values_of base y) v f
  here y false e f = refl

  object_at : FitsSigned w64 v → (temps : Temp → ℤ) (q : Location) → own_with base (set deltas x (int_wrap w64 (v -ℤ values_of base x))) temps q ≡ put (own_with base deltas temps) (BaseAt x) v q
  unfolding definitions
  object_at f temps (TempAt t) = refl
  object_at f temps (BaseAt y) = ap (λ d. int_wrap w64 (values_of base y +ℤ d)) (padded_set deltas x _ (pos 0) y there) ∙ here y (x == y) refl f
  object_at f temps (DeltaAt y k) = refl

  pub set_object : FitsSigned w64 v → (temps : Temp → ℤ) → own_with base (set deltas x (int_wrap w64 (v -ℤ values_of base x))) temps ≡ put (own_with base deltas temps) (BaseAt x) v
  set_object f temps = λ i q. object_at f temps q i

pub stays_or_fits : (deltas : List ℤ) (x : ℕ) (d : ℤ) → x < length deltas → FitsSigned w64 d → (n : ℕ) → (values_of (set deltas x d) n ≡ values_of deltas n) ⊎ FitsSigned w64 (values_of (set deltas x d) n)
stays_or_fits deltas x d there f n = go (x == n) (padded_set deltas x d (pos 0) n there)
  where
    go : (b : Bool) → values_of (set deltas x d) n ≡ cond b d (values_of deltas n) → (values_of (set deltas x d) n ≡ values_of deltas n) ⊎ FitsSigned w64 (values_of (set deltas x d) n)
    go true e = inr (subst (FitsSigned w64) (sym e) f)
    go false e = inl e

-- ---- where a run begins, and what it leaves
module _ (base deltas : List ℤ) (temps : Temp → ℤ) (zero : (t : Temp) → temps t ≡ pos 0) (fits : (n : ℕ) → FitsSigned w64 (own_values base deltas n)) where
  begins_at : (q : Location) → own_with base deltas temps q ≡ whole (own_values base deltas) q
  unfolding definitions
  begins_at (TempAt t) = zero t
  begins_at (BaseAt y) = int_wrap_fits w64 (own_values base deltas y) (fits y)
  begins_at (DeltaAt y k) = refl

  pub begins : (copied : List ℤ) → copied ≡ deltas → own_with base copied temps ≡ whole (own_values base deltas)
  begins copied same = (λ i. own_with base (same i) temps) ∙ (λ i q. begins_at q i)

-- a delta is the difference, where that fits
module _ (b d v : ℤ) (is : int_wrap w64 (b +ℤ d) ≡ v) where
  new_delta : FitsSigned w64 d → FitsSigned w64 (v -ℤ b) → d ≡ v -ℤ b
  new_delta f g =
      sym (int_wrap_fits w64 d f) ∙ sym (ap (int_wrap w64) (ap (λ s. s -ℤ b) (+ℤ_comm b d) ∙ +ℤ-neg_ℤ_cancel d b))
      ∙ sym (int_wrap-add_left w64 (b +ℤ d) (neg_ℤ b)) ∙ ap (λ w. int_wrap w64 (w -ℤ b)) is ∙ int_wrap_fits w64 (v -ℤ b) g

  old_delta : (e : ℤ) → FitsSigned w64 (b +ℤ e) → d ≡ e → d ≡ v -ℤ b
  old_delta e f same =
      same ∙ sym (ap (λ s. s -ℤ b) (+ℤ_comm b e) ∙ +ℤ-neg_ℤ_cancel e b)
      ∙ ap (λ s. s -ℤ b) (sym (int_wrap_fits w64 (b +ℤ e) f) ∙ ap (λ d. int_wrap w64 (b +ℤ d)) (sym same) ∙ is)

  pub left_delta : (e : ℤ) → FitsSigned w64 (b +ℤ e) → (d ≡ e) ⊎ FitsSigned w64 d → FitsSigned w64 (v -ℤ b) → d ≡ v -ℤ b
  left_delta e f (inl same) g = old_delta e f same
  left_delta e f (inr fits) g = new_delta fits g

-- what isn't in a list that `dedup` left wasn't in the list before
pub kept : (n : ℕ) (xs : List ℕ) → list_any (λ m. n == m) (dedup eqb xs) ≡ false → list_any (λ m. n == m) xs ≡ false
kept n xs none = go (list_any (λ m. n == m) xs) refl
  where
    go : (b : Bool) → list_any (λ m. n == m) xs ≡ b → list_any (λ m. n == m) xs ≡ false
    go false e = e
    go true e =
        let there = Any-from_list_any (λ m. n == m) xs e in
        let left = Any-dedup nat_eq_equiv xs there.1 (there.0, there.2, there.3) in
        absurd (false≢true (sym none ∙ ap (λ x. list_any (λ m. x == m) (dedup eqb xs)) (eqb-true n there.1 there.4) ∙ list_any-from_Any (λ m. there.1 == m) (dedup eqb xs) left))
