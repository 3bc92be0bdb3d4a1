-- Deltas in order: each stands behind the one before it.
use Rattle.std.proofs.Common.{◌≡◌, ℕ, zero, suc, ◌+◌, ◌-◌, ◌<◌, ◌≤◌, Bool, true, false, List, [], ◌∷◌, length, slice_index_or, sym, ap, ap₂, ◌∙◌, ⊎_elim, true≢false, arith}
use Rattle.std.proofs.lemmas.List.{get_or_default}
use Rattle.std.proofs.lemmas.Bool.{cases_lt}
use Rattle.homeo_plan.specs.Key.{definitions as plan_definitions}
use Rattle.homeo_plan.specs.declared.forms.Delta.{Delta}
use Rattle.homeo_plan.specs.Each.{Each}
use Rattle.homeo_plan.specs.Linear.{AreInOrder, delta_before}
use Rattle.homeo_plan.proofs.Factors.{before_trans}

-- those below place n stand behind the one before
abbrev pub AreInOrderBelow : ℕ → List Delta → Type 0
AreInOrderBelow n ds = (k : ℕ) (x y : Delta) → suc k < n → delta_before (slice_index_or ds k x) (slice_index_or ds (suc k) y) ≡ true

further : (d e : Delta) (ds : List Delta) → delta_before d e ≡ true → Each (λ x. delta_before e x ≡ true) ds → Each (λ x. delta_before d x ≡ true) ds
unfolding plan_definitions
further d e [] h k = tt
further d e (x ∷ ds) h k = (before_trans d e x h k.0, further d e ds h k.1)

pub all_in_order : (ds : List Delta) → AreInOrderBelow (length ds) ds → AreInOrder ds
unfolding plan_definitions
all_in_order [] h = tt
all_in_order (d ∷ []) h = (tt, tt)
all_in_order (d ∷ e ∷ ds) h =
    let first : delta_before d e ≡ true = h 0 d d (omega arith) in
    let rest = all_in_order (e ∷ ds) (λ k x y l. h (suc k) x y (omega (arith, l))) in
    ((first, further d e ds first rest.0), rest)

pub in_order_below : (ds : List Delta) → AreInOrder ds → AreInOrderBelow (length ds) ds
unfolding plan_definitions
in_order_below [] h k x y l = absurd (omega (arith, l))
in_order_below (d ∷ []) h k x y l = absurd (omega (arith, l))
in_order_below (d ∷ e ∷ ds) h zero x y l = h.0.0
in_order_below (d ∷ e ∷ ds) h (suc k) x y l = in_order_below (e ∷ ds) h.1 k x y (omega (arith, l))

-- the delta at place n stands behind the one before it, or it doesn't
module _ (ds : List Delta) (n : ℕ) (d e : Delta) (v : Bool) (some : 1 ≤ n) (l : n < length ds) (is : v ≡ delta_before (slice_index_or ds (n - 1) d) (slice_index_or ds n e)) where
  pub in_order_goes_on : v ≡ true → AreInOrderBelow n ds → AreInOrderBelow (n + 1) ds
  in_order_goes_on t h = λ k x y s. ⊎_elim (h k x y) (here k x y s) (cases_lt (suc k) n)
    where
      here : (k : ℕ) (x y : Delta) → suc k < n + 1 → n ≤ suc k → delta_before (slice_index_or ds k x) (slice_index_or ds (suc k) y) ≡ true
      here k x y s m =
          let p : k ≡ n - 1 = omega (arith, s, m) in
          let q : suc k ≡ n = omega (arith, s, m) in
          ap₂ delta_before (get_or_default ds k x d (omega (arith, q, l)) ∙ ap (λ j. slice_index_or ds j d) p)
          (get_or_default ds (suc k) y e (omega (arith, q, l)) ∙ ap (λ j. slice_index_or ds j e) q)
          ∙ sym is ∙ t

  pub in_order_stops : v ≡ false → AreInOrder ds → ⊥
  in_order_stops f r =
      let q : suc (n - 1) ≡ n = omega (arith, some) in
      true≢false (sym (in_order_below ds r (n - 1) d e (omega (arith, q, l))) ∙ ap (λ j. delta_before (slice_index_or ds (n - 1) d) (slice_index_or ds j e)) q ∙ sym is ∙ f)

pub in_order_ends : (ds : List Delta) (n : ℕ) → length ds ≤ n → AreInOrderBelow n ds → AreInOrder ds
in_order_ends ds n l h = all_in_order ds (λ k x y s. h k x y (omega (arith, s, l)))
