-- Lists of terms in order and without zeros: the factors say all of one.
use Rattle.homeo_plan.specs.Key.{definitions as plan_definitions}
use Rattle.std.proofs.Common.{◌≡◌, Bool, true, false, cond, List, [], ◌∷◌, ◌++◌, ℤ, pos, ◌+ℤ◌, ◌*ℤ◌, refl, sym, ap, ap₂, ◌∙◌, true≢false, arith}
use Rattle.std.proofs.lemmas.Int.{ints}
use Rattle.std.specs.Ordering.{int_eq}
use Rattle.homeo_lemmas.proofs.Integers.{plus_cancel}
use Rattle.homeo_plan.specs.Each.{Each}
use Rattle.homeo_plan.specs.declared.forms.Delta.{Delta}
use Rattle.homeo_plan.specs.declared.forms.Term.{Term}
use Rattle.homeo_plan.specs.Linear.{same_delta, delta_before, with_term, add_term, add_terms, scale_terms}
use Rattle.homeo_plan.proofs.Factors.{at_delta, factor, same_delta_is, before_total}
use Rattle.homeo_plan.proofs.Order.{Above, Sorted, above_before, none_above, head_factor}
use Rattle.homeo_plan.proofs.Atoms.{append_each}

-- ---- factors that aren't 0
abbrev pub AllCount : List Term → Type 0
unfolding plan_definitions
AllCount ts = Each (λ t. int_eq t.factor (pos 0) ≡ false) ts

count_with : (d : Delta) (f : ℤ) (ts : List Term) → AllCount ts → AllCount (with_term d f ts)
unfolding plan_definitions
count_with d f ts c = go (int_eq f (pos 0)) refl
  where
    go : (v : Bool) → int_eq f (pos 0) ≡ v → AllCount (cond v ts (record { delta = d; factor = f } ∷ ts))
    go true h = c
    go false h = (h, c)

count_add : (d : Delta) (f : ℤ) (ts : List Term) → AllCount ts → AllCount (add_term d f ts)
unfolding plan_definitions
count_add d f [] c = count_with d f [] tt
count_add d f (t ∷ ts) c = go (same_delta d t.delta) (delta_before d t.delta) (count_add d f ts c.1)
  where
    go : (v w : Bool) → AllCount (add_term d f ts) → AllCount (cond v (with_term t.delta (f +ℤ t.factor) ts) (cond w (with_term d f (t ∷ ts)) (t ∷ add_term d f ts)))
    go true w ih = count_with t.delta (f +ℤ t.factor) ts c.1
    go false true ih = count_with d f (t ∷ ts) c
    go false false ih = (c.0, ih)

pub count_adds : (ts us : List Term) → AllCount us → AllCount (add_terms ts us)
unfolding plan_definitions
count_adds [] us c = c
count_adds (t ∷ ts) us c = count_adds ts (add_term t.delta t.factor us) (count_add t.delta t.factor us c)

pub count_scale : (n : ℤ) (ts : List Term) → AllCount (scale_terms n ts)
unfolding plan_definitions
count_scale n [] = tt
count_scale n (t ∷ ts) = count_with t.delta (n *ℤ t.factor) (scale_terms n ts) (count_scale n ts)

-- ---- what holds of each delta
module _ (P : Delta → Type 0) where
  abbrev pub OfEach : List Term → Type 0
  OfEach ts = Each (λ t. P t.delta) ts

  each_with : (d : Delta) (f : ℤ) (ts : List Term) → P d → OfEach ts → OfEach (with_term d f ts)
  unfolding plan_definitions
  each_with d f ts p h = go (int_eq f (pos 0))
    where
      go : (v : Bool) → OfEach (cond v ts (record { delta = d; factor = f } ∷ ts))
      go true = h
      go false = (p, h)

  each_add : (d : Delta) (f : ℤ) (ts : List Term) → P d → OfEach ts → OfEach (add_term d f ts)
  unfolding plan_definitions
  each_add d f [] p h = each_with d f [] p tt
  each_add d f (t ∷ ts) p h = go (same_delta d t.delta) (delta_before d t.delta) (each_add d f ts p h.1)
    where
      go : (v w : Bool) → OfEach (add_term d f ts) → OfEach (cond v (with_term t.delta (f +ℤ t.factor) ts) (cond w (with_term d f (t ∷ ts)) (t ∷ add_term d f ts)))
      go true w ih = each_with t.delta (f +ℤ t.factor) ts h.0 h.1
      go false true ih = each_with d f (t ∷ ts) p h
      go false false ih = (h.0, ih)

  pub each_adds : (ts us : List Term) → OfEach ts → OfEach us → OfEach (add_terms ts us)
  unfolding plan_definitions
  each_adds [] us g h = h
  each_adds (t ∷ ts) us g h = each_adds ts (add_term t.delta t.factor us) g.1 (each_add t.delta t.factor us g.0 h)

  pub each_scale : (n : ℤ) (ts : List Term) → OfEach ts → OfEach (scale_terms n ts)
  unfolding plan_definitions
  each_scale n [] h = tt
  each_scale n (t ∷ ts) h = each_with t.delta (n *ℤ t.factor) (scale_terms n ts) h.0 (each_scale n ts h.1)

-- ---- lists in order that have the same factors
same_rest :
    (t u : Term) (d : Delta) (ts us : List Term) → t ≡ u → at_delta t.delta t.factor d +ℤ factor d ts ≡ at_delta u.delta u.factor d +ℤ factor d us →
    factor d ts ≡ factor d us
same_rest t u d ts us p h =
    plus_cancel (at_delta t.delta t.factor d) (factor d ts) (factor d us) (h ∙ ap (λ (x : Term). at_delta x.delta x.factor d +ℤ factor d us) (sym p))

is_nothing : (f : ℤ) → f ≡ pos 0 → int_eq f (pos 0) ≡ false → ⊥
is_nothing f e c = true≢false (zero_is_zero f e ∙ c)
  where
    zero_is_zero : (f : ℤ) → f ≡ pos 0 → true ≡ int_eq f (pos 0)
    zero_is_zero f e = grind (arith, ints)

-- a term that counts is missed by a list without its delta
missed : (t : Term) (ts us : List Term) → int_eq t.factor (pos 0) ≡ false → Above t.delta ts → factor t.delta us ≡ pos 0 →
    factor t.delta (t ∷ ts) ≡ factor t.delta us → ⊥
missed t ts us c a n h = is_nothing t.factor (sym (head_factor t ts a) ∙ h ∙ n) c

pub same_terms : (ts us : List Term) → Sorted ts → Sorted us → AllCount ts → AllCount us → ((d : Delta) → factor d ts ≡ factor d us) → ts ≡ us
unfolding plan_definitions
same_terms [] [] o p c k h = refl
same_terms [] (u ∷ us) o p c k h = absurd (missed u us [] k.0 p.0 refl (sym (h u.delta)))
same_terms (t ∷ ts) [] o p c k h = absurd (missed t ts [] c.0 o.0 refl (h t.delta))
same_terms (t ∷ ts) (u ∷ us) o p c k h =
    go (same_delta t.delta u.delta) refl (delta_before t.delta u.delta) refl (same_terms ts us o.1 p.1 c.1 k.1)
  where
    go :
        (v : Bool) → same_delta t.delta u.delta ≡ v → (w : Bool) → delta_before t.delta u.delta ≡ w →
        (((x : Delta) → factor x ts ≡ factor x us) → ts ≡ us) → t ∷ ts ≡ u ∷ us
    go true q w r ih =
        let e : t.delta ≡ u.delta = same_delta_is t.delta u.delta q in
        let f : t.factor ≡ u.factor = sym (head_factor t ts o.0) ∙ h t.delta ∙ ap (λ x. factor x (u ∷ us)) e ∙ head_factor u us p.0 in
        let s : t ≡ u = λ i. record { delta = e i; factor = f i } in
        ap₂ ◌∷◌ s (ih (λ x. same_rest t u x ts us s (h x)))
    go false q true r ih =
        absurd (missed t ts (u ∷ us) c.0 o.0 (none_above t.delta (u ∷ us) (r, above_before t.delta u.delta us r p.0)) (h t.delta))
    go false q false r ih =
        let s : delta_before u.delta t.delta ≡ true = before_total t.delta u.delta q r in
        absurd (missed u us (t ∷ ts) k.0 p.0 (none_above u.delta (t ∷ ts) (s, above_before u.delta t.delta ts s o.0)) (sym (h u.delta)))

-- ---- lists one after another
pub factor_append : (d : Delta) (ts us : List Term) → factor d (ts ++ us) ≡ factor d ts +ℤ factor d us
unfolding plan_definitions
factor_append d [] us = omega (arith, ints)
factor_append d (t ∷ ts) us = omega (arith, ints, factor_append d ts us)

pub sorted_append : (ts us : List Term) → Sorted ts → Sorted us → Each (λ t. Above t.delta us) ts → Sorted (ts ++ us)
unfolding plan_definitions
sorted_append [] us s r h = r
sorted_append (t ∷ ts) us s r h = (append_each (λ u. delta_before t.delta u.delta ≡ true) ts us s.0 h.0, sorted_append ts us s.1 r h.1)
