-- Lists of terms in order, each delta once.
use Rattle.homeo_plan.specs.Key.{definitions}
use Rattle.std.proofs.Common.{◌≡◌, ℕ, ◌≤◌, Bool, true, false, cond, List, [], ◌∷◌, ℤ, pos, ◌+ℤ◌, ◌*ℤ◌, refl, sym, ap, ◌∙◌, subst, true≢false, arith}
use Rattle.std.proofs.lemmas.Int.{ints}
use Rattle.std.specs.Int.RustNames.{unsigned_abs}
use Rattle.std.specs.Ordering.{int_eq}
use Rattle.homeo_lemmas.proofs.Integers.{zero_plus}
use Rattle.homeo_plan.specs.Each.{Each}
use Rattle.homeo_plan.specs.declared.forms.Delta.{Delta}
use Rattle.homeo_plan.specs.declared.forms.Term.{Term}
use Rattle.homeo_plan.specs.Linear.{same_delta, delta_before, with_term, add_term, add_terms, scale_terms}
use Rattle.homeo_plan.proofs.Factors.{same_delta_is, same_delta_refl, before_is_other, before_trans, before_total, factor}

-- each term stands after the delta
abbrev pub Above : Delta → List Term → Type 0
unfolding definitions
Above d ts = Each (λ t. delta_before d t.delta ≡ true) ts

abbrev pub Sorted : List Term → Type 0
unfolding definitions
Sorted [] = Unit {0}
Sorted (t ∷ ts) = Above t.delta ts × Sorted ts

pub above_before : (c d : Delta) (ts : List Term) → delta_before c d ≡ true → Above d ts → Above c ts
unfolding definitions
above_before c d [] h a = tt
above_before c d (t ∷ ts) h a = (before_trans c d t.delta h a.0, above_before c d ts h a.1)

above_with : (c d : Delta) (f : ℤ) (ts : List Term) → delta_before c d ≡ true → Above c ts → Above c (with_term d f ts)
unfolding definitions
above_with c d f ts h a = go (int_eq f (pos 0))
  where
    go : (v : Bool) → Above c (cond v ts (record { delta = d; factor = f } ∷ ts))
    go true = a
    go false = (h, a)

above_add : (c d : Delta) (f : ℤ) (ts : List Term) → delta_before c d ≡ true → Above c ts → Above c (add_term d f ts)
unfolding definitions
above_add c d f [] h a = above_with c d f [] h a
above_add c d f (t ∷ ts) h a = go (same_delta d t.delta) (delta_before d t.delta) (above_add c d f ts h a.1)
  where
    go :
        (v w : Bool) → Above c (add_term d f ts) →
        Above c (cond v (with_term t.delta (f +ℤ t.factor) ts) (cond w (with_term d f (t ∷ ts)) (t ∷ add_term d f ts)))
    go true w ih = above_with c t.delta (f +ℤ t.factor) ts a.0 a.1
    go false true ih = above_with c d f (t ∷ ts) h a
    go false false ih = (a.0, ih)

above_scale : (c : Delta) (n : ℤ) (ts : List Term) → Above c ts → Above c (scale_terms n ts)
unfolding definitions
above_scale c n [] a = tt
above_scale c n (t ∷ ts) a = above_with c t.delta (n *ℤ t.factor) (scale_terms n ts) a.0 (above_scale c n ts a.1)

sorted_with : (d : Delta) (f : ℤ) (ts : List Term) → Above d ts → Sorted ts → Sorted (with_term d f ts)
unfolding definitions
sorted_with d f ts a s = go (int_eq f (pos 0))
  where
    go : (v : Bool) → Sorted (cond v ts (record { delta = d; factor = f } ∷ ts))
    go true = s
    go false = (a, s)

sorted_add : (d : Delta) (f : ℤ) (ts : List Term) → Sorted ts → Sorted (add_term d f ts)
unfolding definitions
sorted_add d f [] s = sorted_with d f [] tt tt
sorted_add d f (t ∷ ts) s = go (same_delta d t.delta) refl (delta_before d t.delta) refl (sorted_add d f ts s.1)
  where
    go :
        (v : Bool) → same_delta d t.delta ≡ v → (w : Bool) → delta_before d t.delta ≡ w → Sorted (add_term d f ts) →
        Sorted (cond v (with_term t.delta (f +ℤ t.factor) ts) (cond w (with_term d f (t ∷ ts)) (t ∷ add_term d f ts)))
    go true p w q ih = sorted_with t.delta (f +ℤ t.factor) ts s.0 s.1
    go false p true q ih = sorted_with d f (t ∷ ts) (q, above_before d t.delta ts q s.0) s
    go false p false q ih = (above_add t.delta d f ts (before_total d t.delta p q) s.0, ih)

pub sorted_adds : (ts us : List Term) → Sorted us → Sorted (add_terms ts us)
unfolding definitions
sorted_adds [] us s = s
sorted_adds (t ∷ ts) us s = sorted_adds ts (add_term t.delta t.factor us) (sorted_add t.delta t.factor us s)

pub sorted_scale : (n : ℤ) (ts : List Term) → Sorted ts → Sorted (scale_terms n ts)
unfolding definitions
sorted_scale n [] s = tt
sorted_scale n (t ∷ ts) s =
    sorted_with t.delta (n *ℤ t.factor) (scale_terms n ts) (above_scale t.delta n ts s.0) (sorted_scale n ts s.1)

-- ---- where the terms are in order, a delta's factor is that of its term
pub none_above : (d : Delta) (ts : List Term) → Above d ts → factor d ts ≡ pos 0
unfolding definitions
none_above d [] a = refl
none_above d (t ∷ ts) a = go (same_delta t.delta d) refl (none_above d ts a.1)
  where
    go : (v : Bool) → same_delta t.delta d ≡ v → factor d ts ≡ pos 0 → cond v t.factor (pos 0) +ℤ factor d ts ≡ pos 0
    go true q ih =
        let e : same_delta d t.delta ≡ true = ap (λ c. same_delta d c) (same_delta_is t.delta d q) ∙ same_delta_refl d in
        absurd (true≢false (sym e ∙ before_is_other d t.delta a.0))
    go false q ih = omega (arith, ints, ih)

pub head_factor : (t : Term) (ts : List Term) → Above t.delta ts → factor t.delta (t ∷ ts) ≡ t.factor
unfolding definitions
head_factor t ts a =
    ap (λ v. cond v t.factor (pos 0) +ℤ factor t.delta ts) (same_delta_refl t.delta)
    ∙ omega (arith, ints, none_above t.delta ts a)

pub small_terms : (n : ℕ) (ts : List Term) → Sorted ts → ((d : Delta) → unsigned_abs (factor d ts) ≤ n) → Each (λ t. unsigned_abs t.factor ≤ n) ts
unfolding definitions
small_terms n [] s h = tt
small_terms n (t ∷ ts) s h =
    (subst (λ z. unsigned_abs z ≤ n) (head_factor t ts s.0) (h t.delta), small_terms n ts s.1 (λ d. rest d (same_delta t.delta d) refl (h d)))
  where
    rest : (d : Delta) (v : Bool) → same_delta t.delta d ≡ v → unsigned_abs (cond v t.factor (pos 0) +ℤ factor d ts) ≤ n → unsigned_abs (factor d ts) ≤ n
    rest d true q k =
        let e : factor d ts ≡ pos 0 = ap (λ c. factor c ts) (sym (same_delta_is t.delta d q)) ∙ none_above t.delta ts s.0 in
        let z : unsigned_abs (factor d ts) ≡ 0 = ap unsigned_abs e in
        omega (arith, z)
    rest d false q k = subst (λ z. unsigned_abs z ≤ n) (zero_plus (factor d ts)) k
