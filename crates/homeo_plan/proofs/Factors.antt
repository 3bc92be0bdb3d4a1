-- The factor of a delta in a list of terms, and that lists of terms are in order.
use Rattle.homeo_plan.specs.Key.{definitions}
use Rattle.std.proofs.Common.{◌≡◌, Bool, true, false, cond, List, [], ◌∷◌, ℤ, pos, ◌+ℤ◌, ◌*ℤ◌, refl, sym, ap, ap₂, ◌∙◌, arith}
use Rattle.std.proofs.lemmas.Int.{ints}
use Rattle.std.proofs.lemmas.Bool.Decides.{nat_tests}
use Rattle.std.specs.Ordering.{int_eq}
use Rattle.homeo_lemmas.proofs.Integers.{int_is_zero}
use Rattle.homeo_plan.specs.declared.forms.Delta.{Delta}
use Rattle.homeo_plan.specs.declared.forms.Term.{Term}
use Rattle.homeo_plan.specs.Linear.{same_delta, delta_before, with_term, add_term, add_terms, scale_terms}
use Rattle.homeo_plan.proofs.WholeNumbers.{dist_left}

pub same_delta_is : (d e : Delta) → same_delta d e ≡ true → d ≡ e
unfolding definitions
same_delta_is d e h =
    let x : d.object ≡ e.object = grind (arith, nat_tests) in
    let j : d.site ≡ e.site = grind (arith, nat_tests) in
    λ i. record { object = x i; site = j i }

pub same_delta_refl : (d : Delta) → same_delta d d ≡ true
unfolding definitions
same_delta_refl d = grind (arith, nat_tests)

pub before_is_other : (d e : Delta) → delta_before d e ≡ true → same_delta d e ≡ false
unfolding definitions
before_is_other d e h = grind (arith, nat_tests)

pub before_trans : (c d e : Delta) → delta_before c d ≡ true → delta_before d e ≡ true → delta_before c e ≡ true
unfolding definitions
before_trans c d e p q = grind (arith, nat_tests)

pub before_total : (d e : Delta) → same_delta d e ≡ false → delta_before d e ≡ false → delta_before e d ≡ true
unfolding definitions
before_total d e p q = grind (arith, nat_tests)

-- ---- factors
-- n where the deltas are the same, and else 0
abbrev pub at_delta : Delta → ℤ → Delta → ℤ
unfolding definitions
at_delta d n e = cond (same_delta d e) n (pos 0)

-- the sum of a delta's factors
abbrev pub factor : Delta → List Term → ℤ
unfolding definitions
factor e [] = pos 0
factor e (t ∷ ts) = at_delta t.delta t.factor e +ℤ factor e ts

with_term_factor : (d : Delta) (f : ℤ) (ts : List Term) (e : Delta) → factor e (with_term d f ts) ≡ at_delta d f e +ℤ factor e ts
unfolding definitions
with_term_factor d f ts e = go (int_eq f (pos 0)) refl
  where
    none : (b : Bool) → f ≡ pos 0 → factor e ts ≡ cond b f (pos 0) +ℤ factor e ts
    none true q = omega (arith, ints, q)
    none false q = omega (arith, ints)

    go : (v : Bool) → int_eq f (pos 0) ≡ v → factor e (cond v ts (record { delta = d; factor = f } ∷ ts)) ≡ cond (same_delta d e) f (pos 0) +ℤ factor e ts
    go true q = none (same_delta d e) (int_is_zero f q)
    go false q = refl

at_spot-add : (d : Delta) (f g : ℤ) (e : Delta) → at_delta d (f +ℤ g) e ≡ at_delta d f e +ℤ at_delta d g e
unfolding definitions
at_spot-add d f g e = go (same_delta d e)
  where
    go : (b : Bool) → cond b (f +ℤ g) (pos 0) ≡ cond b f (pos 0) +ℤ cond b g (pos 0)
    go true = refl
    go false = refl

pub add_term_factor : (d : Delta) (f : ℤ) (ts : List Term) (e : Delta) → factor e (add_term d f ts) ≡ at_delta d f e +ℤ factor e ts
unfolding definitions
add_term_factor d f [] e = with_term_factor d f [] e
add_term_factor d f (t ∷ ts) e = go (same_delta d t.delta) refl (delta_before d t.delta) (add_term_factor d f ts e)
  where
    go :
        (v : Bool) → same_delta d t.delta ≡ v → (w : Bool) → factor e (add_term d f ts) ≡ at_delta d f e +ℤ factor e ts →
        factor e (cond v (with_term t.delta (f +ℤ t.factor) ts) (cond w (with_term d f (t ∷ ts)) (t ∷ add_term d f ts))) ≡
        at_delta d f e +ℤ (at_delta t.delta t.factor e +ℤ factor e ts)
    go true q w ih =
        let same : at_delta d f e ≡ at_delta t.delta f e = ap (λ c. at_delta c f e) (same_delta_is d t.delta q) in
        with_term_factor t.delta (f +ℤ t.factor) ts e ∙ omega (arith, ints, at_spot-add t.delta f t.factor e, same)
    go false q true ih = with_term_factor d f (t ∷ ts) e
    go false q false ih = omega (arith, ints, ih)

pub add_terms_factor : (ts us : List Term) (e : Delta) → factor e (add_terms ts us) ≡ factor e ts +ℤ factor e us
unfolding definitions
add_terms_factor [] us e = omega (arith, ints)
add_terms_factor (t ∷ ts) us e =
    omega (arith, ints, add_terms_factor ts (add_term t.delta t.factor us) e, add_term_factor t.delta t.factor us e)

at_spot-scale : (n : ℤ) (d : Delta) (f : ℤ) (e : Delta) → at_delta d (n *ℤ f) e ≡ n *ℤ at_delta d f e
unfolding definitions
at_spot-scale n d f e = go (same_delta d e)
  where
    go : (b : Bool) → cond b (n *ℤ f) (pos 0) ≡ n *ℤ cond b f (pos 0)
    go true = refl
    go false = omega (arith, ints)

pub scale_terms_factor : (n : ℤ) (ts : List Term) (e : Delta) → factor e (scale_terms n ts) ≡ n *ℤ factor e ts
unfolding definitions
scale_terms_factor n [] e = omega (arith, ints)
scale_terms_factor n (t ∷ ts) e =
    with_term_factor t.delta (n *ℤ t.factor) (scale_terms n ts) e
    ∙ ap₂ ◌+ℤ◌ (at_spot-scale n t.delta t.factor e) (scale_terms_factor n ts e)
    ∙ sym (dist_left (at_delta t.delta t.factor e) (factor e ts) n)
