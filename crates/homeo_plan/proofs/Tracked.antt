-- What a linear form says of its expression's value.
use Rattle.homeo_meaning.specs.Key.{definitions as meaning_definitions}
use Rattle.homeo_plan.specs.Key.{definitions}
use Rattle.std.proofs.Common.{◌≡◌, Bool, true, false, cond, List, [], ◌∷◌, ℤ, pos, negsuc, ◌+ℤ◌, ◌*ℤ◌, neg_ℤ, refl, sym, ap, ap₂, ◌∙◌, subst, true≢false, arith}
use Rattle.std.proofs.lemmas.Int.{ints}
use Rattle.std.specs.Ordering.{int_eq}
use Rattle.std.proofs.lemmas.Bool.{and_parts}
use Rattle.homeo_lemmas.proofs.Integers.{plus_turned}
use Rattle.homeo_syntax.specs.Low.{Expr, Exprs, Literal, OfTemp, Read, Sum, Product, Neg, NoExpr, MoreExpr}
use Rattle.homeo_meaning.specs.LowMeaning.{TempAt, DeltaAt, State, location_of, value, sum_value, product_value}
use Rattle.homeo_plan.specs.declared.forms.Delta.{Delta}
use Rattle.homeo_plan.specs.declared.forms.Term.{Term}
use Rattle.homeo_plan.specs.Linear.{same_delta, delta_before, Linear, add_delta, add_deltas, with_term, add_term, add_terms, scale_terms, deltas_of, constant_form, add_forms, scale_form, is_empty, is_pure, support, mix_forms, multiply_forms, Forms, form, sum_form, product_form, terms_value, form_value, IsZeroAt}
use Rattle.homeo_plan.specs.Each.{Each}
use Rattle.homeo_plan.specs.Tracking.{Agrees, Is, Differ, Tracks, TracksAll}
use Rattle.homeo_plan.proofs.Factors.{same_delta_is}
use Rattle.homeo_plan.proofs.WholeNumbers.{dist, dist_left, dist2, mul_comm_z}

-- ---- deltas
pub each_add_delta : (P : Delta → Type 0) (d : Delta) (es : List Delta) → Each P (add_delta d es) → P d × Each P es
unfolding definitions meaning_definitions
each_add_delta P d [] h = h
each_add_delta P d (e ∷ es) h = go (same_delta d e) refl (delta_before d e) (each_add_delta P d es) h
  where
    go :
        (v : Bool) → same_delta d e ≡ v → (w : Bool) → (Each P (add_delta d es) → P d × Each P es) →
        Each P (cond v (e ∷ es) (cond w (d ∷ e ∷ es) (e ∷ add_delta d es))) → P d × (P e × Each P es)
    go true q w ih h = (subst P (sym (same_delta_is d e q)) h.0, h)
    go false q true ih h = h
    go false q false ih h = let k = ih h.1 in (k.0, (h.0, k.1))

pub each_add_deltas : (P : Delta → Type 0) (ds es : List Delta) → Each P (add_deltas ds es) → Each P ds × Each P es
unfolding definitions meaning_definitions
each_add_deltas P [] es h = (tt, h)
each_add_deltas P (d ∷ ds) es h =
    let a = each_add_deltas P ds (add_delta d es) h in
    let b = each_add_delta P d es a.1 in
    ((b.0, a.0), b.1)

-- ---- values of terms
abbrev at : State → Delta → ℤ
unfolding definitions meaning_definitions
at s d = s (DeltaAt d.object d.site)

zero_times : (f x : ℤ) → int_eq f (pos 0) ≡ true → f *ℤ x ≡ pos 0
unfolding definitions meaning_definitions
zero_times f x h =
    let e : f ≡ pos 0 = grind (arith, ints) in
    ap (λ g. g *ℤ x) e ∙ omega (arith, ints)

with_term_value : (d : Delta) (f : ℤ) (ts : List Term) (s : State) → terms_value (with_term d f ts) s ≡ (f *ℤ at s d) +ℤ terms_value ts s
unfolding definitions meaning_definitions
with_term_value d f ts s = go (int_eq f (pos 0)) refl
  where
    go : (v : Bool) → int_eq f (pos 0) ≡ v → terms_value (cond v ts (record { delta = d; factor = f } ∷ ts)) s ≡ (f *ℤ at s d) +ℤ terms_value ts s
    go true q = omega (arith, ints, zero_times f (at s d) q)
    go false q = refl

add_term_value : (d : Delta) (f : ℤ) (ts : List Term) (s : State) → terms_value (add_term d f ts) s ≡ (f *ℤ at s d) +ℤ terms_value ts s
unfolding definitions meaning_definitions
add_term_value d f [] s = with_term_value d f [] s
add_term_value d f (t ∷ ts) s = go (same_delta d t.delta) refl (delta_before d t.delta) (add_term_value d f ts s)
  where
    go :
        (v : Bool) → same_delta d t.delta ≡ v → (w : Bool) →
        terms_value (add_term d f ts) s ≡ (f *ℤ at s d) +ℤ terms_value ts s →
        terms_value (cond v (with_term t.delta (f +ℤ t.factor) ts) (cond w (with_term d f (t ∷ ts)) (t ∷ add_term d f ts))) s ≡
        (f *ℤ at s d) +ℤ ((t.factor *ℤ at s t.delta) +ℤ terms_value ts s)
    go true q w ih =
        let e : at s d ≡ at s t.delta = ap (at s) (same_delta_is d t.delta q) in
        with_term_value t.delta (f +ℤ t.factor) ts s ∙ omega (arith, ints, dist f t.factor (at s t.delta), ap (λ x. f *ℤ x) e)
    go false q true ih = with_term_value d f (t ∷ ts) s
    go false q false ih = omega (arith, ints, ih)

add_terms_value : (ts us : List Term) (s : State) → terms_value (add_terms ts us) s ≡ terms_value ts s +ℤ terms_value us s
unfolding definitions meaning_definitions
add_terms_value [] us s = omega (arith, ints)
add_terms_value (t ∷ ts) us s =
    omega (arith, ints, add_terms_value ts (add_term t.delta t.factor us) s, add_term_value t.delta t.factor us s)

scale_terms_value : (n : ℤ) (ts : List Term) (s : State) → terms_value (scale_terms n ts) s ≡ n *ℤ terms_value ts s
unfolding definitions meaning_definitions
scale_terms_value n [] s = omega (arith, ints)
scale_terms_value n (t ∷ ts) s =
    with_term_value t.delta (n *ℤ t.factor) (scale_terms n ts) s
    ∙ ap (λ r. ((n *ℤ t.factor) *ℤ at s t.delta) +ℤ r) (scale_terms_value n ts s)
    ∙ dist2 n t.factor (at s t.delta) (terms_value ts s)

terms_agree : (ts : List Term) (s s' : State) → Each (Agrees s s') (deltas_of ts) → terms_value ts s ≡ terms_value ts s'
unfolding definitions meaning_definitions
terms_agree [] s s' h = refl
terms_agree (t ∷ ts) s s' h = ap₂ (λ x r. (t.factor *ℤ x) +ℤ r) h.0 (terms_agree ts s s' h.1)

terms_zero : (ts : List Term) (s : State) → Each (IsZeroAt s) (deltas_of ts) → terms_value ts s ≡ pos 0
unfolding definitions meaning_definitions
terms_zero [] s h = refl
terms_zero (t ∷ ts) s h =
    ap₂ (λ x r. (t.factor *ℤ x) +ℤ r) h.0 (terms_zero ts s h.1) ∙ omega (arith, ints)

is_empty_is : {X : Type 0} (xs : List X) → is_empty xs ≡ true → xs ≡ []
unfolding definitions meaning_definitions
is_empty_is [] h = refl
is_empty_is (x ∷ xs) h = absurd (true≢false (sym h))

pub is_pure_value : (a : Linear) (s : State) (x : ℤ) → is_pure a ≡ true → Is a s x → x ≡ a.constant
unfolding definitions meaning_definitions
is_pure_value a s x p h =
    let q = and_parts (is_empty a.terms) (is_empty a.mixed) p in
    h (subst (Each (IsZeroAt s)) (sym (is_empty_is a.mixed q.1)) tt)
    ∙ ap (λ ts. a.constant +ℤ terms_value ts s) (is_empty_is a.terms q.0)
    ∙ omega (arith, ints)

pub is_add : (a b : Linear) (s : State) (x y : ℤ) → Is a s x → Is b s y → Is (add_forms a b) s (x +ℤ y)
unfolding definitions meaning_definitions
is_add a b s x y hx hy h =
    let m = each_add_deltas (IsZeroAt s) a.mixed b.mixed h in
    omega (arith, ints, hx m.0, hy m.1, add_terms_value a.terms b.terms s)

pub is_scale : (n : ℤ) (a : Linear) (s : State) (x : ℤ) → Is a s x → Is (scale_form n a) s (n *ℤ x)
unfolding definitions meaning_definitions
is_scale n a s x hx h =
    ap (λ y. n *ℤ y) (hx h) ∙ dist_left a.constant (terms_value a.terms s) n
    ∙ ap (λ r. (n *ℤ a.constant) +ℤ r) (sym (scale_terms_value n a.terms s))

is_constant_at_zero : (a : Linear) (s : State) (x : ℤ) → Is a s x → Each (IsZeroAt s) (support a) → x ≡ a.constant
unfolding definitions meaning_definitions
is_constant_at_zero a s x hx h =
    let m = each_add_deltas (IsZeroAt s) (deltas_of a.terms) a.mixed h in
    omega (arith, ints, hx m.1, terms_zero a.terms s m.0)

is_mix : (a b : Linear) (s : State) (x y : ℤ) → Is a s x → Is b s y → Is (mix_forms a b) s (x *ℤ y)
unfolding definitions meaning_definitions
is_mix a b s x y hx hy h =
    let m = each_add_deltas (IsZeroAt s) (support a) (support b) h in
    ap₂ ◌*ℤ◌ (is_constant_at_zero a s x hx m.0) (is_constant_at_zero b s y hy m.1) ∙ omega (arith, ints)

pub is_multiply : (a b : Linear) (s : State) (x y : ℤ) → Is a s x → Is b s y → Is (multiply_forms a b) s (x *ℤ y)
unfolding definitions meaning_definitions
is_multiply a b s x y hx hy = go (is_pure a) refl (is_pure b) refl
  where
    go :
        (v : Bool) → is_pure a ≡ v → (w : Bool) → is_pure b ≡ w →
        Is (cond v (scale_form a.constant b) (cond w (scale_form b.constant a) (mix_forms a b))) s (x *ℤ y)
    go true p w q h = ap (λ k. k *ℤ y) (is_pure_value a s x p hx) ∙ is_scale a.constant b s y hy h
    go false p true q h =
        mul_comm_z x y ∙ ap (λ k. k *ℤ x) (is_pure_value b s y q hy) ∙ is_scale b.constant a s x hx h
    go false p false q h = is_mix a b s x y hx hy h

differ_add : (a b : Linear) (s s' : State) (x x' y y' : ℤ) → Differ a s s' x x' → Differ b s s' y y' → Differ (add_forms a b) s s' (x +ℤ y) (x' +ℤ y')
unfolding definitions meaning_definitions
differ_add a b s s' x x' y y' hx hy h =
    let m = each_add_deltas (Agrees s s') a.mixed b.mixed h in
    omega (arith, ints, hx m.0, hy m.1, add_terms_value a.terms b.terms s, add_terms_value a.terms b.terms s')

scale_form_value : (n : ℤ) (a : Linear) (s : State) → form_value (scale_form n a) s ≡ n *ℤ form_value a s
unfolding definitions meaning_definitions
scale_form_value n a s =
    ap (λ r. (n *ℤ a.constant) +ℤ r) (scale_terms_value n a.terms s) ∙ sym (dist_left a.constant (terms_value a.terms s) n)

differ_scale : (n : ℤ) (a : Linear) (s s' : State) (x x' : ℤ) → Differ a s s' x x' → Differ (scale_form n a) s s' (n *ℤ x) (n *ℤ x')
unfolding definitions meaning_definitions
differ_scale n a s s' x x' hx h =
    ap (λ r. (n *ℤ x) +ℤ r) (scale_form_value n a s')
    ∙ sym (dist_left x (form_value a s') n) ∙ ap (λ r. n *ℤ r) (hx h) ∙ dist_left x' (form_value a s) n
    ∙ ap (λ r. (n *ℤ x') +ℤ r) (sym (scale_form_value n a s))

-- the same value, where all deltas of the form are the same
pub same_by_support : (a : Linear) (s s' : State) (x x' : ℤ) → Differ a s s' x x' → Each (Agrees s s') (support a) → x ≡ x'
unfolding definitions meaning_definitions
same_by_support a s s' x x' hx h =
    let m = each_add_deltas (Agrees s s') (deltas_of a.terms) a.mixed h in
    omega (arith, ints, hx m.1, terms_agree a.terms s s' m.0)

differ_mix : (a b : Linear) (s s' : State) (x x' y y' : ℤ) → Differ a s s' x x' → Differ b s s' y y' → Differ (mix_forms a b) s s' (x *ℤ y) (x' *ℤ y')
unfolding definitions meaning_definitions
differ_mix a b s s' x x' y y' hx hy h =
    let m = each_add_deltas (Agrees s s') (support a) (support b) h in
    ap (λ r. r +ℤ form_value (mix_forms a b) s) (ap₂ ◌*ℤ◌ (same_by_support a s s' x x' hx m.0) (same_by_support b s s' y y' hy m.1))

differ_multiply : (a b : Linear) (s s' : State) (x x' y y' : ℤ) → Tracks a s s' x x' → Tracks b s s' y y' → Differ (multiply_forms a b) s s' (x *ℤ y) (x' *ℤ y')
unfolding definitions meaning_definitions
differ_multiply a b s s' x x' y y' hx hy = go (is_pure a) refl (is_pure b) refl
  where
    go :
        (v : Bool) → is_pure a ≡ v → (w : Bool) → is_pure b ≡ w →
        Differ (cond v (scale_form a.constant b) (cond w (scale_form b.constant a) (mix_forms a b))) s s' (x *ℤ y) (x' *ℤ y')
    go true p w q h =
        let e = is_pure_value a s x p hx.here in
        let e' = is_pure_value a s' x' p hx.there in
        ap (λ k. (k *ℤ y) +ℤ form_value (scale_form a.constant b) s') e
        ∙ differ_scale a.constant b s s' y y' hy.apart h
        ∙ ap (λ k. (k *ℤ y') +ℤ form_value (scale_form a.constant b) s) (sym e')
    go false p true q h =
        let e = mul_comm_z x y ∙ ap (λ k. k *ℤ x) (is_pure_value b s y q hy.here) in
        let e' = mul_comm_z x' y' ∙ ap (λ k. k *ℤ x') (is_pure_value b s' y' q hy.there) in
        ap (λ k. k +ℤ form_value (scale_form b.constant a) s') e
        ∙ differ_scale b.constant a s s' x x' hx.apart h
        ∙ ap (λ k. k +ℤ form_value (scale_form b.constant a) s) (sym e')
    go false p false q h = differ_mix a b s s' x x' y y' hx.apart hy.apart h

tracks_multiply : (a b : Linear) (s s' : State) (x x' y y' : ℤ) → Tracks a s s' x x' → Tracks b s s' y y' → Tracks (multiply_forms a b) s s' (x *ℤ y) (x' *ℤ y')
unfolding definitions meaning_definitions
tracks_multiply a b s s' x x' y y' hx hy =
    record {
      here = is_multiply a b s x y hx.here hy.here;
      there = is_multiply a b s' x' y' hx.there hy.there;
      apart = differ_multiply a b s s' x x' y y' hx hy;
    }

tracks_add : (a b : Linear) (s s' : State) (x x' y y' : ℤ) → Tracks a s s' x x' → Tracks b s s' y y' → Tracks (add_forms a b) s s' (x +ℤ y) (x' +ℤ y')
unfolding definitions meaning_definitions
tracks_add a b s s' x x' y y' hx hy =
    record {
      here = is_add a b s x y hx.here hy.here;
      there = is_add a b s' x' y' hx.there hy.there;
      apart = differ_add a b s s' x x' y y' hx.apart hy.apart;
    }

-- added in front
tracks_more : (a b : Linear) (s s' : State) (x x' y y' : ℤ) → Tracks a s s' x x' → Tracks b s s' y y' → Tracks (add_forms b a) s s' (x +ℤ y) (x' +ℤ y')
tracks_more a b s s' x x' y y' hx hy =
    subst (λ z. Tracks (add_forms b a) s s' z (x' +ℤ y')) (plus_turned y x)
    (subst (λ z. Tracks (add_forms b a) s s' (y +ℤ x) z) (plus_turned y' x') (tracks_add b a s s' y y' x x' hy hx))

pub tracks_constant : (n : ℤ) (s s' : State) → Tracks (constant_form n) s s' n n
unfolding definitions meaning_definitions
tracks_constant n s s' =
    record { here = λ h. omega (arith, ints); there = λ h. omega (arith, ints); apart = λ h. refl }

minus_one : (x : ℤ) → neg_ℤ x ≡ negsuc 0 *ℤ x
unfolding definitions meaning_definitions
minus_one x = omega (arith, ints)

tracks_negation : (a : Linear) (s s' : State) (x x' : ℤ) → Tracks a s s' x x' → Tracks (scale_form (negsuc 0) a) s s' (neg_ℤ x) (neg_ℤ x')
unfolding definitions meaning_definitions
tracks_negation a s s' x x' hx =
    record {
      here = λ h. minus_one x ∙ is_scale (negsuc 0) a s x hx.here h;
      there = λ h. minus_one x' ∙ is_scale (negsuc 0) a s' x' hx.there h;
      apart = λ h.
          ap (λ k. k +ℤ form_value (scale_form (negsuc 0) a) s') (minus_one x)
          ∙ differ_scale (negsuc 0) a s s' x x' hx.apart h
          ∙ ap (λ k. k +ℤ form_value (scale_form (negsuc 0) a) s) (sym (minus_one x'));
    }

-- ---- expressions
module _ (f : Forms) (s s' u u' : State) (h : TracksAll f s s' u u') where
  mutual
    unfolding definitions meaning_definitions

    pub tracks : (e : Expr) → Tracks (form f e) s s' (value e u) (value e u')
    tracks (Literal n) = tracks_constant n s s'
    tracks (OfTemp t) = h (TempAt t)
    tracks (Read x) = h (location_of x)
    tracks (Sum es) = tracks_sum es (constant_form (pos 0)) (pos 0) (pos 0) (tracks_constant (pos 0) s s')
    tracks (Product es) = tracks_product es (constant_form (pos 1)) (pos 1) (pos 1) (tracks_constant (pos 1) s s')
    tracks (Neg e) = tracks_negation (form f e) s s' (value e u) (value e u') (tracks e)

    tracks_sum : (es : Exprs) (a : Linear) (n n' : ℤ) → Tracks a s s' n n' → Tracks (sum_form f a es) s s' (sum_value n es u) (sum_value n' es u')
    tracks_sum NoExpr a n n' k = k
    tracks_sum (MoreExpr e es) a n n' k =
        tracks_sum es (add_forms (form f e) a) (n +ℤ value e u) (n' +ℤ value e u') (tracks_more a (form f e) s s' n n' (value e u) (value e u') k (tracks e))

    tracks_product :
        (es : Exprs) (a : Linear) (n n' : ℤ) → Tracks a s s' n n' →
        Tracks (product_form f a es) s s' (product_value n es u) (product_value n' es u')
    tracks_product NoExpr a n n' k = k
    tracks_product (MoreExpr e es) a n n' k =
        tracks_product es (multiply_forms a (form f e)) (n *ℤ value e u) (n' *ℤ value e u')
        (tracks_multiply a (form f e) s s' n n' (value e u) (value e u') k (tracks e))
