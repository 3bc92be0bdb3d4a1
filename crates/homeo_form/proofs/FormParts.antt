-- Forms from their parts: a number, lists of terms and of mixed deltas in order.
use Rattle.std.proofs.Common.{◌≡◌, ℕ, ◌==◌, suc, Bool, true, false, cond, ◌&&◌, List, [], ◌∷◌, ◌++◌, length, ℤ, pos, negsuc, ◌+ℤ◌, ◌*ℤ◌, refl, sym, ap, ap₂, ◌∙◌, subst, true≢false, arith}
use Rattle.std.proofs.Math.IntN.{+ℤ_idl}
use Rattle.std.proofs.lemmas.Bool.Decides.{nat_tests}
use Rattle.std.proofs.lemmas.Int.{ints}
use Rattle.homeo_meaning.specs.Small.{IsSmall}
use Rattle.homeo_plan.specs.Key.{definitions as plan_definitions}
use Rattle.homeo_plan.specs.FormSizes.{Numbers}
use Rattle.homeo_plan.specs.Linear.{AreInOrder, Linear, delta_before, deltas_of, with_term, add_deltas, add_term, add_terms, scale_terms, constant_form, delta_form, add_forms, scale_form, multiply_forms, mix_forms, is_empty, is_pure, support}
use Rattle.homeo_plan.specs.declared.forms.Delta.{Delta}
use Rattle.homeo_plan.specs.declared.forms.Term.{Term}
use Rattle.homeo_plan.specs.Limit.{form_limit}
use Rattle.homeo_follow.specs.Key.{definitions as follow_definitions}
use Rattle.homeo_follow.specs.Follow.{object_delta, object_form, gain}
use Rattle.homeo_form.specs.Key.{definitions}
use Rattle.homeo_form.specs.inner.Moved.{IsMoved}
use Rattle.homeo_form.specs.inner.Order.{IsInOrder}
use Rattle.homeo_form.specs.inner.Terms.{AreSmall, AreAddedUp, term_form}
use Rattle.homeo_plan.proofs.DeltaLists.{in_order_adds}
use Rattle.homeo_plan.proofs.Factors.{same_delta_refl}
use Rattle.homeo_form.proofs.Adding.{order_adds, order_scale}
use Rattle.homeo_form.proofs.DeltasInOrder.{in_order_kept as deltas_kept, adds_append as deltas_append, adds_into as deltas_into, adds_swap as deltas_swap}
use Rattle.homeo_form.proofs.TermsAddedUp.{turned_apart, turned_adds, count_adds, count_scale, in_order_kept as terms_kept, adds_append as terms_append}

abbrev pub form_of : ℤ → List Term → List Delta → Linear
form_of n ts ds = record { constant = n; terms = ts; mixed = ds }

pub same_form : (m n : ℤ) (ts us : List Term) (ds es : List Delta) → m ≡ n → ts ≡ us → ds ≡ es → form_of m ts ds ≡ form_of n us es
same_form m n ts us ds es p q r = λ i. form_of (p i) (q i) (r i)

abbrev pub AreFormParts : List Term → List Delta → Type 0
AreFormParts ts ds = AreAddedUp ts × AreInOrder ds

no_terms : AreAddedUp []
unfolding definitions plan_definitions
no_terms = record { order = tt; counts = tt }

pub none_in_order : (ts : List Term) (ds : List Delta) → ts ≡ [] → ds ≡ [] → AreFormParts ts ds
unfolding plan_definitions
none_in_order ts ds p q = (subst AreAddedUp (sym p) no_terms, subst AreInOrder (sym q) tt)

pub one_in_order :
    (d : Delta) (ts us : List Term) (ds : List Delta) → us ≡ [] → ts ≡ us ++ record { delta = d; factor = pos 1 } ∷ [] → ds ≡ [] → AreFormParts ts ds
unfolding definitions plan_definitions
one_in_order d ts us ds n p q = (
  subst AreAddedUp (sym (p ∙ ap (λ l. l ++ record { delta = d; factor = pos 1 } ∷ []) n)) (record { order = (tt, tt); counts = (refl, tt) }),
  subst AreInOrder (sym q) tt,
)

pub sum_in_order : (ts us : List Term) (ds es : List Delta) → us ≡ add_terms ts [] → es ≡ add_deltas ds [] → AreFormParts us es
unfolding definitions plan_definitions
sum_in_order ts us ds es p q = (
  subst AreAddedUp (sym p) (record { order = order_adds ts [] tt; counts = count_adds ts [] tt }),
  subst AreInOrder (sym q) (in_order_adds ds [] tt),
)

pub multiple_in_order :
    (n : ℤ) (ts us xs : List Term) (ds es ys : List Delta) → us ≡ scale_terms n xs → xs ≡ ts → es ≡ ys → ys ≡ ds → AreFormParts ts ds → AreFormParts us es
multiple_in_order n ts us xs ds es ys p p' q q' o = (
  subst AreAddedUp (sym (p ∙ ap (scale_terms n) p')) (record { order = order_scale n ts o.0.order; counts = count_scale n ts }),
  subst AreInOrder (sym (q ∙ q')) o.1,
)

pub mix_in_order : (ts : List Term) (ds es : List Delta) → ts ≡ [] → es ≡ add_deltas ds [] → AreFormParts ts es
unfolding plan_definitions
mix_in_order ts ds es p q = (subst AreAddedUp (sym p) no_terms, subst AreInOrder (sym q) (in_order_adds ds [] tt))

-- ---- small numbers
pub small_terms : (a : Linear) (n : ℤ) (ts xs : List Term) (ds : List Delta) → form_of n ts ds ≡ a → xs ≡ ts → Numbers (IsSmall form_limit) a → AreSmall xs
unfolding definitions
small_terms a n ts xs ds e p h =
    subst AreSmall (sym p) (subst (λ (b : Linear). AreSmall b.terms) (sym e) h.factors)

pub small_constant : (a : Linear) (n : ℤ) (ts : List Term) (ds : List Delta) → form_of n ts ds ≡ a → IsSmall form_limit a.constant → IsSmall form_limit n
small_constant a n ts ds e h = subst (λ (b : Linear). IsSmall form_limit b.constant) (sym e) h

pub none_small : (ts : List Term) → ts ≡ [] → AreSmall ts
unfolding definitions plan_definitions
none_small ts p = subst AreSmall (sym p) tt

small_append : (ts us : List Term) → AreSmall ts → AreSmall us → AreSmall (ts ++ us)
unfolding definitions plan_definitions
small_append [] us h k = k
small_append (t ∷ ts) us h k = (h.0, small_append ts us h.1 k)

pub both_small : (ts us vs : List Term) → vs ≡ ts ++ us → AreSmall ts → AreSmall us → AreSmall vs
both_small ts us vs p h k = subst AreSmall (sym p) (small_append ts us h k)

pub one_small : (t : Term) → IsSmall form_limit t.factor → AreSmall (t ∷ [])
unfolding definitions plan_definitions
one_small t h = (h, tt)

pub terms_in_order : (ts xs : List Term) → xs ≡ ts → AreAddedUp ts → AreInOrder (deltas_of xs)
terms_in_order ts xs p o = subst (λ l. AreInOrder (deltas_of l)) (sym p) o.order

pub order_is : (a : Linear) (n : ℤ) (ts : List Term) (ds : List Delta) → form_of n ts ds ≡ a → AreFormParts ts ds → IsInOrder a
unfolding definitions
order_is a n ts ds e o = subst IsInOrder e (o.0.order, o.1)

-- ---- differences with their sign turned
turned_difference : (a b : Linear) → IsInOrder a → IsInOrder b → scale_form (negsuc 0) (add_forms a (scale_form (negsuc 0) b)) ≡ add_forms b (scale_form (negsuc 0) a)
unfolding definitions plan_definitions
turned_difference a b o p = λ i. record {
  constant = turned_apart a.constant b.constant i;
  terms = turned_adds a.terms b.terms o.0 p.0 i;
  mixed = deltas_swap a.mixed b.mixed o.1 p.1 i;
}

pub turned_back :
    (a b x y f : Linear) → f ≡ add_forms a (scale_form (negsuc 0) b) → x ≡ a → y ≡ b → IsInOrder x → IsInOrder y →
    scale_form (negsuc 0) f ≡ add_forms b (scale_form (negsuc 0) a)
turned_back a b x y f e p q o r =
    ap (scale_form (negsuc 0)) e ∙ turned_difference a b (subst IsInOrder p o) (subst IsInOrder q r)

pub number_in_order : (n : ℤ) → IsInOrder (constant_form n)
unfolding definitions plan_definitions
number_in_order n = (tt, tt)

-- ---- what forms are
pub number_is : (z n : ℤ) (ts : List Term) (ds : List Delta) → z ≡ n → ts ≡ [] → ds ≡ [] → form_of z ts ds ≡ constant_form n
unfolding plan_definitions
number_is z n ts ds p q r = same_form z n ts [] ds [] p q r

pub delta_is : (d : Delta) (ts us : List Term) (ds : List Delta) → us ≡ [] → ts ≡ us ++ record { delta = d; factor = pos 1 } ∷ [] → ds ≡ [] → form_of (pos 0) ts ds ≡ delta_form d
unfolding plan_definitions
delta_is d ts us ds n p q =
    same_form (pos 0) (pos 0) ts (record { delta = d; factor = pos 1 } ∷ []) ds [] refl (p ∙ ap (λ l. l ++ record { delta = d; factor = pos 1 } ∷ []) n) q

-- a sum of one form
pub total_of : (a : Linear) (n z : ℤ) (ts : List Term) (ds : List Delta) → form_of n ts ds ≡ a → z ≡ n → AreFormParts ts ds → form_of z (add_terms ts []) (add_deltas ds []) ≡ a
total_of a n z ts ds e c o =
    same_form z n (add_terms ts []) ts (add_deltas ds []) ds c (sym (terms_kept ts o.0.order o.0.counts)) (sym (deltas_kept ds o.1)) ∙ e

pub total_none : (z : ℤ) (ts : List Term) (ds : List Delta) → z ≡ pos 0 → ts ≡ [] → ds ≡ [] → form_of z (add_terms ts []) (add_deltas ds []) ≡ constant_form (pos 0)
unfolding plan_definitions
total_none z ts ds c p q = same_form z (pos 0) (add_terms ts []) [] (add_deltas ds []) [] c (ap (λ l. add_terms l []) p) (ap (λ l. add_deltas l []) q)

pub sum_is :
    (a b : Linear) (m n z : ℤ) (ts us vs xs : List Term) (ds es fs ys : List Delta) → form_of m (add_terms ts []) (add_deltas ds []) ≡ a → form_of n us es ≡ b →
    z ≡ n +ℤ m → vs ≡ ts ++ xs → xs ≡ us → fs ≡ ds ++ ys → ys ≡ es → form_of z (add_terms vs []) (add_deltas fs []) ≡ add_forms b a
unfolding plan_definitions
sum_is a b m n z ts us vs xs ds es fs ys e f c p p' q q' =
    same_form z (n +ℤ m) (add_terms vs []) (add_terms us (add_terms ts [])) (add_deltas fs []) (add_deltas es (add_deltas ds [])) c
    (ap (λ l. add_terms l []) p ∙ terms_append ts xs [] ∙ ap (λ l. add_terms l (add_terms ts [])) p')
    (ap (λ l. add_deltas l []) q ∙ deltas_append ds ys [] ∙ ap (λ l. add_deltas l (add_deltas ds [])) q')
    ∙ ap₂ (λ x y. add_forms x y) f e

pub number_more_is :
    (a : Linear) (m n z : ℤ) (ts : List Term) (ds : List Delta) → form_of m ts ds ≡ a → z ≡ n +ℤ m → form_of z ts ds ≡ add_forms (constant_form n) a
unfolding plan_definitions
number_more_is a m n z ts ds e c = same_form z (n +ℤ m) ts ts ds ds c refl refl ∙ ap (add_forms (constant_form n)) e

swapped : (m n : ℤ) → n +ℤ m ≡ m +ℤ n
swapped m n = omega (arith, ints)

-- the number behind the form
pub number_behind_is :
    (a : Linear) (m n z : ℤ) (ts : List Term) (ds : List Delta) → form_of m ts ds ≡ a → z ≡ n +ℤ m → AreFormParts ts ds → form_of z ts ds ≡ add_forms a (constant_form n)
unfolding plan_definitions
number_behind_is a m n z ts ds e c o =
    same_form z (m +ℤ n) ts (add_terms ts []) ds (add_deltas ds []) (c ∙ swapped m n) (terms_kept ts o.0.order o.0.counts) (deltas_kept ds o.1)
    ∙ ap (λ b. add_forms b (constant_form n)) e

-- nothing behind it
pub none_behind : (a : Linear) (m : ℤ) (ts : List Term) (ds : List Delta) → form_of m ts ds ≡ a → AreFormParts ts ds → a ≡ add_forms a (constant_form (pos 0))
none_behind a m ts ds e o = sym e ∙ number_behind_is a m (pos 0) m ts ds e (sym (+ℤ_idl m)) o

pub term_more_is :
    (a : Linear) (m z : ℤ) (t : Term) (ts us : List Term) (ds : List Delta) → form_of m (add_terms ts []) ds ≡ a → z ≡ m → us ≡ ts ++ t ∷ [] →
    form_of z (add_terms us []) ds ≡ add_forms (term_form t) a
unfolding plan_definitions definitions
term_more_is a m z t ts us ds e c p =
    same_form z (pos 0 +ℤ m) (add_terms us []) (add_term t.delta t.factor (add_terms ts [])) ds ds (c ∙ sym (+ℤ_idl m))
    (ap (λ l. add_terms l []) p ∙ terms_append ts (t ∷ []) []) refl
    ∙ ap (add_forms (term_form t)) e

pub multiple_is :
    (a : Linear) (k k' n z : ℤ) (ts us xs : List Term) (ds es ys : List Delta) → form_of n ts ds ≡ a → z ≡ k *ℤ n → k' ≡ k → us ≡ scale_terms k' xs →
    xs ≡ ts → es ≡ ys → ys ≡ ds → form_of z us es ≡ scale_form k a
unfolding plan_definitions
multiple_is a k k' n z ts us xs ds es ys e c w p p' q q' =
    same_form z (k *ℤ n) us (scale_terms k ts) es ds c (p ∙ ap₂ scale_terms w p') (q ∙ q') ∙ ap (scale_form k) e

-- deltas put into others that are in order
pub put_into : (ds es fs xs : List Delta) → fs ≡ add_deltas xs [] → xs ≡ ds ++ es → AreInOrder ds → fs ≡ add_deltas es ds
put_into ds es fs xs p q o = p ∙ ap (λ l. add_deltas l []) q ∙ deltas_append ds es [] ∙ ap (add_deltas es) (sym (deltas_kept ds o))

pub mix_is :
    (a b : Linear) (m n z : ℤ) (us vs : List Term) (fs gs : List Delta) (ts : List Term) (es ds ys ws : List Delta) → form_of m us fs ≡ a → form_of n vs gs ≡ b →
    z ≡ m *ℤ n → ts ≡ [] → es ≡ add_deltas ys ds → ys ≡ ws → ws ≡ support b → ds ≡ support a → AreInOrder ds → AreInOrder ws → form_of z ts es ≡ mix_forms a b
unfolding plan_definitions
mix_is a b m n z us vs fs gs ts es ds ys ws e f c p q y w d o r =
    same_form z (a.constant *ℤ b.constant) ts [] es (add_deltas (support a) (support b))
    (c ∙ ap₂ (λ (x y : Linear). x.constant *ℤ y.constant) e f) p
    (q ∙ ap (λ l. add_deltas l ds) y ∙ deltas_swap ws ds r o ∙ ap₂ add_deltas d w)

no_length : {X : Type 0} (xs : List X) → (length xs == 0) ≡ is_empty xs
unfolding plan_definitions
no_length [] = refl
no_length (x ∷ xs) = one_more (length xs)
  where
    one_more : (n : ℕ) → (suc n == 0) ≡ false
    one_more n = grind (arith, nat_tests)

pub no_items : {X : Type 0} (xs : List X) → true ≡ (length xs == 0) → xs ≡ []
unfolding plan_definitions
no_items [] h = refl
no_items (x ∷ xs) h = absurd (true≢false (h ∙ no_length (x ∷ xs)))

pub moved_is :
    (a : Linear) (x : ℕ) (n : ℤ) (ts xs : List Term) (ds ys : List Delta) → form_of n ts ds ≡ a → xs ≡ ts → ys ≡ ds →
    xs ≡ record { delta = record { object = x; site = 0 }; factor = pos 1 } ∷ [] → true ≡ (length ys == 0) → IsMoved x a
unfolding plan_definitions follow_definitions
moved_is a x n ts xs ds ys e p q h k =
    sym e ∙ same_form n n ts (record { delta = record { object = x; site = 0 }; factor = pos 1 } ∷ []) ds [] refl (sym p ∙ h) (sym q ∙ no_items ys k)
    ∙ ap (λ (b : Linear). object_form b.constant x) e

pub pure_is :
    (a : Linear) (n : ℤ) (ts xs : List Term) (ds ys : List Delta) (v : Bool) → form_of n ts ds ≡ a → xs ≡ ts → ys ≡ ds → true ≡ (length xs == 0) →
    v ≡ (length ys == 0) → v ≡ is_pure a
unfolding plan_definitions
pure_is a n ts xs ds ys v e p q h k =
    k ∙ no_length ys ∙ ap is_empty q ∙ ap (λ w. w && is_empty ds) (h ∙ no_length xs ∙ ap is_empty p) ∙ ap is_pure e

pub impure_is :
    (a : Linear) (n : ℤ) (ts xs : List Term) (ds : List Delta) (v : Bool) → form_of n ts ds ≡ a → xs ≡ ts → false ≡ (length xs == 0) → v ≡ (length xs == 0) → v ≡ is_pure a
unfolding plan_definitions
impure_is a n ts xs ds v e p h k =
    k ∙ sym h ∙ ap (λ w. w && is_empty ds) (h ∙ no_length xs ∙ ap is_empty p) ∙ ap is_pure e

pub pure_form : (b : Linear) → true ≡ is_pure b → constant_form b.constant ≡ b
unfolding plan_definitions
pure_form b h = at b.constant b.terms b.mixed h
  where
    at : (n : ℤ) (ts : List Term) (ds : List Delta) → true ≡ (is_empty ts && is_empty ds) → form_of n [] [] ≡ form_of n ts ds
    at n [] [] h = refl
    at n [] (d ∷ ds) h = absurd cc
    at n (t ∷ ts) ds h = absurd cc

pub by_number :
    (a b : Linear) (m n : ℤ) (ts : List Term) (ds : List Delta) → m ≡ n → form_of n ts ds ≡ a → true ≡ is_pure a → scale_form m b ≡ multiply_forms a b
unfolding plan_definitions
by_number a b m n ts ds e p h =
    ap (λ k. scale_form k b) (e ∙ ap (λ (x : Linear). x.constant) p)
    ∙ ap (λ v. cond v (scale_form a.constant b) (cond (is_pure b) (scale_form b.constant a) (mix_forms a b))) h

pub by_other :
    (a b : Linear) (m n : ℤ) (ts : List Term) (ds : List Delta) → m ≡ n → form_of n ts ds ≡ b → false ≡ is_pure a → true ≡ is_pure b →
    scale_form m a ≡ multiply_forms a b
unfolding plan_definitions
by_other a b m n ts ds e p h k =
    ap (λ k. scale_form k a) (e ∙ ap (λ (x : Linear). x.constant) p)
    ∙ ap₂ (λ v w. cond v (scale_form a.constant b) (cond w (scale_form b.constant a) (mix_forms a b))) h k

pub by_neither : (a b : Linear) → false ≡ is_pure a → false ≡ is_pure b → mix_forms a b ≡ multiply_forms a b
unfolding plan_definitions
by_neither a b h k = ap₂ (λ v w. cond v (scale_form a.constant b) (cond w (scale_form b.constant a) (mix_forms a b))) h k

pub support_is :
    (a : Linear) (n : ℤ) (ts xs : List Term) (ds es ys fs : List Delta) → form_of n ts ds ≡ a → fs ≡ add_deltas (deltas_of xs) es → xs ≡ ts → es ≡ ys →
    ys ≡ ds → fs ≡ support a
unfolding plan_definitions
support_is a n ts xs ds es ys fs e p x q q' =
    p ∙ ap₂ (λ l m. add_deltas (deltas_of l) m) x (q ∙ q') ∙ ap support e

pub support_in_order : (ds es : List Delta) → es ≡ add_deltas ds [] → AreInOrder es
unfolding plan_definitions
support_in_order ds es p = subst AreInOrder (sym p) (in_order_adds ds [] tt)

-- deltas of a form behind others
pub pushed_is :
    (a : Linear) (n : ℤ) (ts xs : List Term) (ds ys es fs gs : List Delta) → form_of n ts ds ≡ a → fs ≡ es ++ ys → ys ≡ ds →
    gs ≡ fs ++ deltas_of xs → xs ≡ ts → add_deltas gs [] ≡ add_deltas (support a) (add_deltas es [])
unfolding plan_definitions
pushed_is a n ts xs ds ys es fs gs e p q r x =
    ap (λ l. add_deltas l []) r ∙ deltas_append fs (deltas_of xs) []
    ∙ ap₂ (λ l m. add_deltas (deltas_of l) m) x (ap (λ l. add_deltas l []) p ∙ deltas_append es ys [] ∙ ap (λ l. add_deltas l (add_deltas es [])) q)
    ∙ deltas_into (deltas_of ts) ds (add_deltas es []) (in_order_adds es [] tt)
    ∙ ap (λ b. add_deltas (support b) (add_deltas es [])) e

-- a gain that is a number has none
moved_gain : (n : ℤ) (x : ℕ) (a : Linear) → IsMoved x a → support (gain n x a) ≡ []
unfolding plan_definitions follow_definitions
moved_gain n x a h =
    let d : Delta = object_delta x in
    let t : Term = record { delta = d; factor = pos 1 } in
    ap (λ b. support (gain n x b)) h
    ∙ ap (λ v. add_deltas (deltas_of (cond v (with_term d (negsuc 0 +ℤ pos 1) []) (cond (delta_before d d) (with_term d (negsuc 0) (t ∷ [])) (t ∷ add_term d (negsuc 0) [])))) [])
    (same_delta_refl d)

pub moved_pushed : (n : ℤ) (x : ℕ) (a : Linear) (ds : List Delta) → IsMoved x a → ds ≡ add_deltas (support (gain n x a)) ds
unfolding plan_definitions
moved_pushed n x a ds h = sym (ap (λ l. add_deltas l ds) (moved_gain n x a h))

-- those of what an object gains, where the form is written to it
pub gain_pushed :
    (a : Linear) (x : ℕ) (k n : ℤ) (ts xs ls ms : List Term) (ds ys es fs gs : List Delta) → form_of n ts ds ≡ a →
    ls ≡ add_term (record { object = x; site = 0 }) (negsuc 0) xs → xs ≡ ts → fs ≡ es ++ ys → ys ≡ ds → gs ≡ fs ++ deltas_of ms → ms ≡ ls →
    add_deltas gs [] ≡ add_deltas (support (gain k x a)) (add_deltas es [])
unfolding plan_definitions follow_definitions
gain_pushed a x k n ts xs ls ms ds ys es fs gs e l w p q r m =
    pushed_is (gain k x (form_of n ts ds)) _ (add_term (record { object = x; site = 0 }) (negsuc 0) ts) ms ds ys es fs gs refl p q r
    (m ∙ l ∙ ap (add_term (record { object = x; site = 0 }) (negsuc 0)) w)
    ∙ ap (λ b. add_deltas (support (gain k x b)) (add_deltas es [])) e
