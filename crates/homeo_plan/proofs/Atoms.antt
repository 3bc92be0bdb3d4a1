-- A formula holds where its atoms are at most 0 and their mixed deltas are 0.
use Rattle.homeo_meaning.specs.Key.{definitions as meaning_definitions}
use Rattle.homeo_plan.specs.Key.{definitions}
use Rattle.std.proofs.Common.{◌≡◌, ℕ, Bool, true, false, cond, not, ◌&&◌, List, [], ◌∷◌, ◌++◌, ℤ, pos, negsuc, ◌+ℤ◌, ◌*ℤ◌, ◌≤ℤ◌, int_lt, int_le, refl, sym, ap, ap₂, ◌∙◌, subst, true≢false, arith}
use Rattle.std.proofs.lemmas.Int.{ints}
use Rattle.std.specs.Ordering.{int_eq}
use Rattle.std.proofs.lemmas.Bool.{and_parts, not-true, not-false}
use Rattle.homeo_lemmas.proofs.Bools.{and_false}
use Rattle.homeo_lemmas.proofs.Integers.{int_is, int_same, int_is_not}
use Rattle.homeo_syntax.specs.declared.phrase.Compare.{Compare}
use Rattle.homeo_syntax.specs.declared.phrase.Compare.TheVariants.{Less, LessEqual, Equal}
use Rattle.homeo_syntax.specs.Low.{Expr, Test, Cond, True, Not, Comparison, NoTest, MoreTest}
use Rattle.homeo_meaning.specs.Meaning.{compared}
use Rattle.homeo_meaning.specs.LowMeaning.{TempAt, BaseAt, DeltaAt, State, value, passes, holds, whole}
use Rattle.homeo_plan.specs.declared.forms.Delta.{Delta}
use Rattle.homeo_plan.specs.declared.forms.Term.{Term}
use Rattle.homeo_plan.specs.Linear.{delta_of, Linear, constant_form, delta_form, add_forms, scale_form, base_forms, form, terms_value, IsZeroAt}
use Rattle.homeo_plan.specs.Atoms.{difference, true_comparison, false_comparison, true_test, false_test, true_cond, false_cond}
use Rattle.homeo_plan.specs.Each.{Each}
use Rattle.homeo_plan.specs.Holding.{IsOn, AtomHolds}
use Rattle.homeo_plan.proofs.Tracked.{tracks, is_add, is_scale}
use Rattle.homeo_plan.specs.Tracking.{Is, TracksAll, IsBelowAtBase}

pub base_is_on : (b : ℕ → ℤ) → IsOn b (whole b)
unfolding definitions meaning_definitions
base_is_on b = record { bases = λ x. refl; temps = λ t. refl }

constant_is : (n x : ℤ) (s : State) → x ≡ n → Is (constant_form n) s x
unfolding definitions meaning_definitions
constant_is n x s e h = omega (arith, ints)

delta_is : (d : Delta) (s : State) → Is (delta_form d) s (s (DeltaAt d.object d.site))
unfolding definitions meaning_definitions
delta_is d s h = omega (arith, ints)

pub start_tracks : (b : ℕ → ℤ) (s s' : State) → IsOn b s → IsOn b s' → TracksAll (base_forms b) s s' s s'
unfolding definitions meaning_definitions
start_tracks b s s' h h' (TempAt t) =
    record { here = constant_is _ _ s (h.temps t); there = constant_is _ _ s' (h'.temps t); apart = λ k. omega (arith, ints, h.temps t, h'.temps t) }
start_tracks b s s' h h' (BaseAt x) =
    record { here = constant_is _ _ s (h.bases x); there = constant_is _ _ s' (h'.bases x); apart = λ k. omega (arith, ints, h.bases x, h'.bases x) }
start_tracks b s s' h h' (DeltaAt x j) =
    record { here = delta_is (delta_of x j) s; there = delta_is (delta_of x j) s'; apart = λ k. omega (arith, ints) }

each_zero_at_base : (b : ℕ → ℤ) (ds : List Delta) → Each (IsZeroAt (whole b)) ds
unfolding definitions meaning_definitions
each_zero_at_base b [] = tt
each_zero_at_base b (d ∷ ds) = (refl, each_zero_at_base b ds)

terms_at_base : (b : ℕ → ℤ) (ts : List Term) → terms_value ts (whole b) ≡ pos 0
unfolding definitions meaning_definitions
terms_at_base b [] = refl
terms_at_base b (t ∷ ts) = omega (arith, ints, terms_at_base b ts)

-- what a form says at a state of its base, and at the base itself
pub form_is : (b : ℕ → ℤ) (s : State) → IsOn b s → (e : Expr) → Is (form (base_forms b) e) s (value e s)
unfolding definitions meaning_definitions
form_is b s h e = (tracks (base_forms b) s s s s (start_tracks b s s h h) e).here

pub form_at_base : (b : ℕ → ℤ) (e : Expr) → value e (whole b) ≡ (form (base_forms b) e).constant
unfolding definitions meaning_definitions
form_at_base b e =
    form_is b (whole b) (base_is_on b) e (each_zero_at_base b _)
    ∙ ap (λ r. (form (base_forms b) e).constant +ℤ r) (terms_at_base b (form (base_forms b) e).terms)
    ∙ omega (arith, ints)

pub each_append : {X : Type 0} (P : X → Type 0) (xs ys : List X) → Each P (xs ++ ys) → Each P xs × Each P ys
unfolding definitions meaning_definitions
each_append P [] ys h = (tt, h)
each_append P (x ∷ xs) ys h = let k = each_append P xs ys h.1 in ((h.0, k.0), k.1)

pub append_each : {X : Type 0} (P : X → Type 0) (xs ys : List X) → Each P xs → Each P ys → Each P (xs ++ ys)
unfolding definitions meaning_definitions
append_each P [] ys h k = k
append_each P (x ∷ xs) ys h k = (h.0, append_each P xs ys h.1 k)

-- ---- comparisons
gap : (a b : Linear) (n : ℤ) (s : State) (x y : ℤ) → Is a s x → Is b s y → AtomHolds s (difference a b n) → (n +ℤ (x +ℤ (negsuc 0 *ℤ y))) ≤ℤ pos 0
unfolding definitions meaning_definitions
gap a b n s x y hx hy h =
    let e =
    is_add (constant_form n) (add_forms a (scale_form (negsuc 0) b)) s n (x +ℤ (negsuc 0 *ℤ y)) (constant_is n n s refl)
    (is_add a (scale_form (negsuc 0) b) s x (negsuc 0 *ℤ y) hx (is_scale (negsuc 0) b s y hy)) h.mixed in
    subst (λ z. z ≤ℤ pos 0) (sym e) h.below

less_if : (x y : ℤ) → (pos 1 +ℤ (x +ℤ (negsuc 0 *ℤ y))) ≤ℤ pos 0 → int_lt x y ≡ true
unfolding definitions meaning_definitions
less_if x y h = let e : true ≡ int_lt x y = omega (arith, ints) in sym e

at_most_if : (x y : ℤ) → (pos 0 +ℤ (x +ℤ (negsuc 0 *ℤ y))) ≤ℤ pos 0 → int_le x y ≡ true
unfolding definitions meaning_definitions
at_most_if x y h = let e : true ≡ int_le x y = omega (arith, ints) in sym e

not_less_if : (x y : ℤ) → (pos 0 +ℤ (y +ℤ (negsuc 0 *ℤ x))) ≤ℤ pos 0 → int_lt x y ≡ false
unfolding definitions meaning_definitions
not_less_if x y h = let e : false ≡ int_lt x y = omega (arith, ints) in sym e

not_at_most_if : (x y : ℤ) → (pos 1 +ℤ (y +ℤ (negsuc 0 *ℤ x))) ≤ℤ pos 0 → int_le x y ≡ false
unfolding definitions meaning_definitions
not_at_most_if x y h = let e : false ≡ int_le x y = omega (arith, ints) in sym e

int_ne_of : (x y : ℤ) → (x ≡ y → ⊥) → int_eq x y ≡ false
unfolding definitions meaning_definitions
int_ne_of x y h = grind (arith, ints)

pub true_comparison_holds :
    (op : Compare) (a b : Linear) (s : State) (x y : ℤ) → Is a s x → Is b s y → Each (AtomHolds s) (true_comparison op a b) →
    compared op x y ≡ true
unfolding definitions meaning_definitions
true_comparison_holds Less a b s x y hx hy h = less_if x y (gap a b (pos 1) s x y hx hy h.0)
true_comparison_holds LessEqual a b s x y hx hy h = at_most_if x y (gap a b (pos 0) s x y hx hy h.0)
true_comparison_holds Equal a b s x y hx hy h =
    let p = gap a b (pos 0) s x y hx hy h.0 in
    let q = gap b a (pos 0) s y x hy hx h.1.0 in
    int_same x y (omega (arith, ints))

pub false_comparison_holds :
    (op : Compare) (v : Bool) (a b : Linear) (s : State) (x y : ℤ) → Is a s x → Is b s y →
    Each (AtomHolds s) (false_comparison op v a b) → compared op x y ≡ false
unfolding definitions meaning_definitions
false_comparison_holds Less v a b s x y hx hy h = not_less_if x y (gap b a (pos 0) s y x hy hx h.0)
false_comparison_holds LessEqual v a b s x y hx hy h = not_at_most_if x y (gap b a (pos 1) s y x hy hx h.0)
false_comparison_holds Equal true a b s x y hx hy h =
    let p = gap a b (pos 1) s x y hx hy h.0 in int_ne_of x y (λ e. omega (arith, ints))
false_comparison_holds Equal false a b s x y hx hy h =
    let p = gap b a (pos 1) s y x hy hx h.0 in int_ne_of x y (λ e. omega (arith, ints))

-- ---- at the base
pub true_below : (op : Compare) (a b : Linear) → compared op a.constant b.constant ≡ true → Each IsBelowAtBase (true_comparison op a b)
unfolding definitions meaning_definitions
true_below Less a b h = (omega (arith, ints), tt)
true_below LessEqual a b h = (omega (arith, ints), tt)
true_below Equal a b h = let e = int_is a.constant b.constant h in (omega (arith, ints), (omega (arith, ints), tt))

pub false_below :
    (op : Compare) (a b : Linear) → compared op a.constant b.constant ≡ false →
    Each IsBelowAtBase (false_comparison op (int_lt a.constant b.constant) a b)
unfolding definitions meaning_definitions
false_below Less a b h = (omega (arith, ints), tt)
false_below LessEqual a b h = (omega (arith, ints), tt)
false_below Equal a b h = go (int_lt a.constant b.constant) refl
  where
    go : (v : Bool) → int_lt a.constant b.constant ≡ v → Each IsBelowAtBase (cond v (difference a b (pos 1)) (difference b a (pos 1)) ∷ [])
    go true e = (omega (arith, ints), tt)
    go false e =
        let ne = int_is_not a.constant b.constant h in
        (omega (arith, ints), tt)

-- ---- whole formulas
module _ (b : ℕ → ℤ) (s : State) (on : IsOn b s) where
  mutual
    unfolding definitions meaning_definitions

    true_test_holds : (t : Test) → passes t (whole b) ≡ true → Each (AtomHolds s) (true_test b t) → passes t s ≡ true
    true_test_holds True e h = refl
    true_test_holds (Not c) e h = ap not (false_cond_holds c (not-true (holds c (whole b)) e) h)
    true_test_holds (Comparison op x y) e h =
        true_comparison_holds op _ _ s (value x s) (value y s) (form_is b s on x) (form_is b s on y) h

    false_test_holds : (t : Test) → passes t (whole b) ≡ false → Each (AtomHolds s) (false_test b t) → passes t s ≡ false
    false_test_holds True e h = e
    false_test_holds (Not c) e h = ap not (true_cond_holds c (not-false (holds c (whole b)) e) h)
    false_test_holds (Comparison op x y) e h =
        false_comparison_holds op _ _ _ s (value x s) (value y s) (form_is b s on x) (form_is b s on y) h

    pub true_cond_holds : (c : Cond) → holds c (whole b) ≡ true → Each (AtomHolds s) (true_cond b c) → holds c s ≡ true
    true_cond_holds NoTest e h = refl
    true_cond_holds (MoreTest t c) e h =
        let k = each_append (AtomHolds s) (true_test b t) (true_cond b c) h in
        let m = and_parts (passes t (whole b)) (holds c (whole b)) e in
        ap₂ (λ u v. (u && v)) (true_test_holds t m.0 k.0) (true_cond_holds c m.1 k.1)

    false_cond_holds : (c : Cond) → holds c (whole b) ≡ false → Each (AtomHolds s) (false_cond b c) → holds c s ≡ false
    false_cond_holds NoTest e h = absurd (true≢false e)
    false_cond_holds (MoreTest t c) e h =
        first_false (passes t (whole b)) refl (false_cond_holds c) (false_test_holds t) e h
      where
        first_false : (v : Bool) → passes t (whole b) ≡ v
            → (holds c (whole b) ≡ false → Each (AtomHolds s) (false_cond b c) → holds c s ≡ false)
            → (passes t (whole b) ≡ false → Each (AtomHolds s) (false_test b t) → passes t s ≡ false)
            → (v && holds c (whole b)) ≡ false → Each (AtomHolds s) (cond v (false_cond b c) (false_test b t)) → (passes t s && holds c s) ≡ false
        first_false true q hc ht e h = ap (λ w. passes t s && w) (hc e h) ∙ and_false (passes t s)
        first_false false q hc ht e h = ap (λ w. w && holds c s) (ht q h)

-- the constants of the atoms of what holds at the base
module _ (b : ℕ → ℤ) where
  mutual
    unfolding definitions meaning_definitions

    true_test_below : (t : Test) → passes t (whole b) ≡ true → Each IsBelowAtBase (true_test b t)
    true_test_below True e = tt
    true_test_below (Not c) e = false_cond_below c (not-true (holds c (whole b)) e)
    true_test_below (Comparison op x y) e =
        true_below op _ _ (sym (ap₂ (compared op) (form_at_base b x) (form_at_base b y)) ∙ e)

    false_test_below : (t : Test) → passes t (whole b) ≡ false → Each IsBelowAtBase (false_test b t)
    false_test_below True e = tt
    false_test_below (Not c) e = true_cond_below c (not-false (holds c (whole b)) e)
    false_test_below (Comparison op x y) e =
        let p = form (base_forms b) x in
        let q = form (base_forms b) y in
        subst (λ v. Each IsBelowAtBase (false_comparison op v p q)) (sym (ap₂ int_lt (form_at_base b x) (form_at_base b y)))
        (false_below op p q (sym (ap₂ (compared op) (form_at_base b x) (form_at_base b y)) ∙ e))

    pub true_cond_below : (c : Cond) → holds c (whole b) ≡ true → Each IsBelowAtBase (true_cond b c)
    true_cond_below NoTest e = tt
    true_cond_below (MoreTest t c) e =
        let m = and_parts (passes t (whole b)) (holds c (whole b)) e in
        append_each IsBelowAtBase (true_test b t) (true_cond b c) (true_test_below t m.0) (true_cond_below c m.1)

    false_cond_below : (c : Cond) → holds c (whole b) ≡ false → Each IsBelowAtBase (false_cond b c)
    false_cond_below NoTest e = tt
    false_cond_below (MoreTest t c) e = first_false (passes t (whole b)) refl (false_cond_below c) (false_test_below t) e
      where
        first_false : (v : Bool) → passes t (whole b) ≡ v
            → (holds c (whole b) ≡ false → Each IsBelowAtBase (false_cond b c))
            → (passes t (whole b) ≡ false → Each IsBelowAtBase (false_test b t))
            → (v && holds c (whole b)) ≡ false → Each IsBelowAtBase (cond v (false_cond b c) (false_test b t))
        first_false true q hc ht e = hc e
        first_false false q hc ht e = ht q

-- ---- what holds of the difference of two forms, where it holds of both, holds of each atom of their comparison
module _ (P : Linear → Type 0) (apart : (a b : Linear) (n : ℤ) → P a → P b → P (difference a b n)) where
  pub each_true : (op : Compare) (a b : Linear) → P a → P b → Each P (true_comparison op a b)
  unfolding definitions
  each_true Less a b h k = (apart a b (pos 1) h k, tt)
  each_true LessEqual a b h k = (apart a b (pos 0) h k, tt)
  each_true Equal a b h k = (apart a b (pos 0) h k, (apart b a (pos 0) k h, tt))

  pub each_false : (op : Compare) (v : Bool) (a b : Linear) → P a → P b → Each P (false_comparison op v a b)
  unfolding definitions
  each_false Less v a b h k = (apart b a (pos 0) k h, tt)
  each_false LessEqual v a b h k = (apart b a (pos 1) k h, tt)
  each_false Equal true a b h k = (apart a b (pos 1) h k, tt)
  each_false Equal false a b h k = (apart b a (pos 1) k h, tt)
