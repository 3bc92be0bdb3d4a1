-- Terms put together: the sums of the factors of each delta say all of a list in order without factors of 0, so that it matters
-- not in which order terms are added.
use Rattle.std.proofs.Common.{◌≡◌, ◌+◌, ℕ, suc, All, Bool, true, false, cond, List, [], ◌∷◌, ◌++◌, sum_by, ℤ, pos, negsuc, ◌+ℤ◌, ◌-ℤ◌, ◌*ℤ◌, refl, sym, ap, ap₂, ◌∙◌, arith}
use borrow.Author.Differences.{up, down}
use Rattle.std.specs.List.Sorted.{IsPermutation}
use Rattle.std.specs.Ordering.{int_eq}
use Rattle.std.proofs.lemmas.Bool.Decides.{nat_tests, Decides-int_eq}
use Rattle.std.proofs.lemmas.Int.{ints}
use Rattle.std.proofs.lemmas.List.Sums.{sum_by-cons}
use Rattle.std.proofs.lemmas.List.Sorted.{All-permutation, sum_by-IsPermutation}
use Rattle.homeo_lemmas.proofs.Integers.{plus_zero, plus_cancel}
use Rattle.homeo_meaning.specs.Small.{IsSmall}
use Rattle.homeo_plan.specs.Key.{definitions as plan_definitions}
use Rattle.homeo_plan.specs.Each.{Each}
use Rattle.homeo_plan.specs.Linear.{AreInOrder, same_delta, delta_before, deltas_of, with_term, add_term, add_terms, scale_terms}
use Rattle.homeo_plan.specs.declared.forms.Delta.{Delta}
use Rattle.homeo_plan.specs.declared.forms.Term.{Term}
use Rattle.homeo_plan.specs.Limit.{form_limit}
use Rattle.homeo_form.specs.Key.{definitions}
use Rattle.homeo_form.specs.inner.Terms.{AllCount, AreSmall, share, factor_at}
use Rattle.homeo_plan.proofs.DeltaLists.{After, after_before}
use Rattle.homeo_plan.proofs.Factors.{factor, add_terms_factor, scale_terms_factor, same_delta_is, before_total}
use Rattle.homeo_plan.proofs.Order.{Above, none_above, head_factor}
use Rattle.homeo_form.proofs.Orders.{each_at}
use Rattle.homeo_form.proofs.Adding.{order_adds, order_scale}

-- ---- numbers
left_over : (f : ℤ) → int_eq f (pos 0) ≡ false → f ≡ pos 0 → ⊥
left_over f h e = grind (arith, Decides-int_eq f (pos 0))

pub add_assoc : (x y z : ℤ) → (x +ℤ y) +ℤ z ≡ x +ℤ (y +ℤ z)
add_assoc x y z = omega (arith, ints)

pub add_swap : (x y z : ℤ) → x +ℤ (y +ℤ z) ≡ y +ℤ (x +ℤ z)
add_swap x y z = omega (arith, ints)

-- ---- the sum of a delta's factors
same_delta_swap : (d e : Delta) → same_delta d e ≡ same_delta e d
unfolding plan_definitions
same_delta_swap d e = grind (arith, nat_tests)

at_factor : (d : Delta) (ts : List Term) → factor_at d ts ≡ factor d ts
unfolding definitions plan_definitions
at_factor d [] = refl
at_factor d (t ∷ ts) = ap₂ (λ b z. cond b t.factor (pos 0) +ℤ z) (same_delta_swap d t.delta) (at_factor d ts)

pub at_adds : (d : Delta) (ts us : List Term) → factor_at d (add_terms ts us) ≡ factor_at d ts +ℤ factor_at d us
at_adds d ts us = at_factor d (add_terms ts us) ∙ add_terms_factor ts us d ∙ sym (ap₂ ◌+ℤ◌ (at_factor d ts) (at_factor d us))

at_turned : (d : Delta) (ts : List Term) → factor_at d (scale_terms (negsuc 0) ts) ≡ negsuc 0 *ℤ factor_at d ts
at_turned d ts =
    at_factor d (scale_terms (negsuc 0) ts) ∙ scale_terms_factor (negsuc 0) ts d ∙ sym (ap (λ z. negsuc 0 *ℤ z) (at_factor d ts))

-- ---- of terms in order
above : (d : Delta) (ts : List Term) → After d (deltas_of ts) → Above d ts
unfolding plan_definitions
above d [] a = tt
above d (t ∷ ts) a = (a.0, above d ts a.1)

pub above_none : (d : Delta) (ts : List Term) → After d (deltas_of ts) → factor_at d ts ≡ pos 0
above_none d ts a = at_factor d ts ∙ none_above d ts (above d ts a)

-- the first term has all of its delta's factors
pub first_at : (t : Term) (ts : List Term) → After t.delta (deltas_of ts) → factor_at t.delta (t ∷ ts) ≡ t.factor
first_at t ts a = at_factor t.delta (t ∷ ts) ∙ head_factor t ts (above t.delta ts a)

-- ---- in another order
-- what is gained and what is lost
abbrev gain : Delta → Term → ℕ
gain d t = cond (same_delta d t.delta) (up t.factor) 0

abbrev loss : Delta → Term → ℕ
loss d t = cond (same_delta d t.delta) (down t.factor) 0

both_parts : (f : ℤ) → f ≡ pos (up f) -ℤ pos (down f)
both_parts f = omega (arith, ints)

parts_of : (b : Bool) (f : ℤ) → cond b f (pos 0) ≡ pos (cond b (up f) 0) -ℤ pos (cond b (down f) 0)
parts_of true f = both_parts f
parts_of false f = refl

more_parts : (x y : ℤ) (a b m n : ℕ) → x ≡ pos a -ℤ pos b → y ≡ pos m -ℤ pos n → x +ℤ y ≡ pos (a + m) -ℤ pos (b + n)
more_parts x y a b m n p q = omega (arith, ints, p, q)

in_parts : (d : Delta) (ts : List Term) → factor_at d ts ≡ pos (sum_by (gain d) ts) -ℤ pos (sum_by (loss d) ts)
unfolding definitions
in_parts d [] = refl
in_parts d (t ∷ ts) =
    more_parts (share d t.delta t.factor) (factor_at d ts) (gain d t) (loss d t) (sum_by (gain d) ts) (sum_by (loss d) ts)
    (parts_of (same_delta d t.delta) t.factor) (in_parts d ts)
    ∙ sym (ap₂ (λ m n. pos m -ℤ pos n) (sum_by-cons (gain d) t ts) (sum_by-cons (loss d) t ts))

at_permuted : (d : Delta) (ts us : List Term) → IsPermutation ts us → factor_at d us ≡ factor_at d ts
at_permuted d ts us p =
    in_parts d us
    ∙ ap₂ (λ m n. pos m -ℤ pos n) (sum_by-IsPermutation (gain d) ts us p) (sum_by-IsPermutation (loss d) ts us p)
    ∙ sym (in_parts d ts)

-- ---- lists in order that have the same factors
same_rest :
    (t u : Term) (d : Delta) (ts us : List Term) → t ≡ u → share d t.delta t.factor +ℤ factor_at d ts ≡ share d u.delta u.factor +ℤ factor_at d us →
    factor_at d ts ≡ factor_at d us
same_rest t u d ts us p h =
    plus_cancel (share d t.delta t.factor) (factor_at d ts) (factor_at d us) (h ∙ ap (λ (x : Term). share d x.delta x.factor +ℤ factor_at d us) (sym p))

-- a term that counts is missed by a list without its delta
missed : (t : Term) (ts us : List Term) → int_eq t.factor (pos 0) ≡ false → After t.delta (deltas_of ts) → factor_at t.delta us ≡ pos 0 →
    factor_at t.delta (t ∷ ts) ≡ factor_at t.delta us → ⊥
missed t ts us c a n h = left_over t.factor c (sym (first_at t ts a) ∙ h ∙ n)

same_terms :
    (ts us : List Term) → AreInOrder (deltas_of ts) → AreInOrder (deltas_of us) → AllCount ts → AllCount us → ((d : Delta) → factor_at d ts ≡ factor_at d us) → ts ≡ us
unfolding definitions plan_definitions
same_terms [] [] o p c k h = refl
same_terms [] (u ∷ us) o p c k h = absurd (missed u us [] k.0 p.0 refl (sym (h u.delta)))
same_terms (t ∷ ts) [] o p c k h = absurd (missed t ts [] c.0 o.0 refl (h t.delta))
same_terms (t ∷ ts) (u ∷ us) o p c k h =
    go (same_delta t.delta u.delta) refl (delta_before t.delta u.delta) refl (same_terms ts us o.1 p.1 c.1 k.1)
  where
    go :
        (v : Bool) → same_delta t.delta u.delta ≡ v → (w : Bool) → delta_before t.delta u.delta ≡ w →
        (((x : Delta) → factor_at x ts ≡ factor_at x us) → ts ≡ us) → t ∷ ts ≡ u ∷ us
    go true q w r ih =
        let e : t.delta ≡ u.delta = same_delta_is t.delta u.delta q in
        let f : t.factor ≡ u.factor = sym (first_at t ts o.0) ∙ h t.delta ∙ ap (λ x. factor_at x (u ∷ us)) e ∙ first_at u us p.0 in
        let s : t ≡ u = λ i. record { delta = e i; factor = f i } in
        ap₂ ◌∷◌ s (ih (λ x. same_rest t u x ts us s (h x)))
    go false q true r ih =
        absurd (missed t ts (u ∷ us) c.0 o.0 (above_none t.delta (u ∷ us) (r, after_before t.delta u.delta (deltas_of us) r p.0)) (h t.delta))
    go false q false r ih =
        let s : delta_before u.delta t.delta ≡ true = before_total t.delta u.delta q r in
        absurd (missed u us (t ∷ ts) k.0 p.0 (above_none u.delta (t ∷ ts) (s, after_before u.delta t.delta (deltas_of ts) s o.0)) (sym (h u.delta)))

-- ---- factors that aren't 0
count_with : (d : Delta) (f : ℤ) (ts : List Term) → AllCount ts → AllCount (with_term d f ts)
unfolding definitions plan_definitions
count_with d f ts c = go (int_eq f (pos 0)) refl
  where
    go : (v : Bool) → int_eq f (pos 0) ≡ v → AllCount (cond v ts (record { delta = d; factor = f } ∷ ts))
    go true h = c
    go false h = (h, c)

count_add : (d : Delta) (f : ℤ) (ts : List Term) → AllCount ts → AllCount (add_term d f ts)
unfolding definitions plan_definitions
count_add d f [] c = count_with d f [] tt
count_add d f (t ∷ ts) c = go (same_delta d t.delta) (delta_before d t.delta) (count_add d f ts c.1)
  where
    go : (v w : Bool) → AllCount (add_term d f ts) → AllCount (cond v (with_term t.delta (f +ℤ t.factor) ts) (cond w (with_term d f (t ∷ ts)) (t ∷ add_term d f ts)))
    go true w ih = count_with t.delta (f +ℤ t.factor) ts c.1
    go false true ih = count_with d f (t ∷ ts) c
    go false false ih = (c.0, ih)

pub count_adds : (ts us : List Term) → AllCount us → AllCount (add_terms ts us)
unfolding plan_definitions
count_adds [] us c = c
count_adds (t ∷ ts) us c = count_adds ts (add_term t.delta t.factor us) (count_add t.delta t.factor us c)

pub count_scale : (n : ℤ) (ts : List Term) → AllCount (scale_terms n ts)
unfolding definitions plan_definitions
count_scale n [] = tt
count_scale n (t ∷ ts) = count_with t.delta (n *ℤ t.factor) (scale_terms n ts) (count_scale n ts)

-- ---- what they are put together
same_by : (ts us : List Term) → AreInOrder (deltas_of us) → AllCount us → ((d : Delta) → factor_at d us ≡ factor_at d ts) → us ≡ add_terms ts []
unfolding definitions plan_definitions
same_by ts us o c h =
    same_terms us (add_terms ts []) o (order_adds ts [] tt) c (count_adds ts [] tt) (λ d. h d ∙ sym (at_adds d ts [] ∙ plus_zero (factor_at d ts)))

pub in_order_kept : (ts : List Term) → AreInOrder (deltas_of ts) → AllCount ts → ts ≡ add_terms ts []
in_order_kept ts o c = same_by ts ts o c (λ d. refl)

pub permuted_same : (ts us : List Term) → IsPermutation ts us → add_terms us [] ≡ add_terms ts []
unfolding definitions plan_definitions
permuted_same ts us p =
    same_by ts (add_terms us []) (order_adds us [] tt) (count_adds us [] tt)
    (λ d. at_adds d us [] ∙ plus_zero (factor_at d us) ∙ at_permuted d ts us p)

pub adds_append : (ts us vs : List Term) → add_terms (ts ++ us) vs ≡ add_terms us (add_terms ts vs)
unfolding plan_definitions
adds_append [] us vs = refl
adds_append (t ∷ ts) us vs = adds_append ts us (add_term t.delta t.factor vs)

-- ---- signs turned
pub turned_apart : (x y : ℤ) → negsuc 0 *ℤ (x +ℤ (negsuc 0 *ℤ y)) ≡ y +ℤ (negsuc 0 *ℤ x)
turned_apart x y = omega (arith, ints)

pub turned_adds : (ts us : List Term) → AreInOrder (deltas_of ts) → AreInOrder (deltas_of us) →
    scale_terms (negsuc 0) (add_terms ts (scale_terms (negsuc 0) us)) ≡ add_terms us (scale_terms (negsuc 0) ts)
turned_adds ts us o p =
    let apart = add_terms ts (scale_terms (negsuc 0) us) in
    same_terms (scale_terms (negsuc 0) apart) (add_terms us (scale_terms (negsuc 0) ts))
    (order_scale (negsuc 0) apart (order_adds ts (scale_terms (negsuc 0) us) (order_scale (negsuc 0) us p)))
    (order_adds us (scale_terms (negsuc 0) ts) (order_scale (negsuc 0) ts o)) (count_scale (negsuc 0) apart)
    (count_adds us (scale_terms (negsuc 0) ts) (count_scale (negsuc 0) ts))
    (λ d. at_turned d apart
    ∙ ap (λ z. negsuc 0 *ℤ z) (at_adds d ts (scale_terms (negsuc 0) us) ∙ ap (λ z. factor_at d ts +ℤ z) (at_turned d us))
    ∙ turned_apart (factor_at d ts) (factor_at d us)
    ∙ sym (at_adds d us (scale_terms (negsuc 0) ts) ∙ ap (λ z. factor_at d us +ℤ z) (at_turned d ts)))

-- ---- small factors
each_of : {X : Type 0} (P : X → Type 0) (xs : List X) → All P xs → Each P xs
unfolding plan_definitions
each_of P [] h = tt
each_of P (x ∷ xs) h = (h 0 x (omega arith), each_of P xs (λ k d l. h (suc k) d (omega (arith, l))))

pub small_permuted : (ts us : List Term) → IsPermutation ts us → AreSmall ts → AreSmall us
unfolding definitions
small_permuted ts us p h =
    let P : Term → Type 0 = λ t. IsSmall form_limit t.factor in
    each_of P us (All-permutation P ts us p (λ k d l. each_at P ts k d l h))
