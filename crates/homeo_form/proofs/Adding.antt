-- Terms in order: one more, and all of them.
use Rattle.std.proofs.Common.{◌≡◌, ℕ, zero, suc, ◌+◌, ◌-◌, ◌*◌, ◌<◌, ◌≤◌, nat_lt, Bool, true, false, not, cond, List, [], ◌∷◌, ◌++◌, take, drop, get_or, set, length, map, ℤ, pos, negsuc, ◌+ℤ◌, ◌*ℤ◌, refl, sym, ap, ap₂, ◌∙◌, subst, true≢false, add-one, drop_of_length-le, append-nil, arith}
use Rattle.std.proofs.Math.Seq.{drop-cons}
use Rattle.std.proofs.lemmas.Bool.Decides.{nat_tests, Decides-int_eq}
use Rattle.std.proofs.lemmas.Int.{ints}
use Rattle.std.proofs.lemmas.List.{get_or-map, get_or-append_right, get_or-drop, length-map, length-take-le, take_all}
use Rattle.std.proofs.lemmas.List.Edits.{map_over_more}
use Rattle.std.specs.List.{insert, remove}
use Rattle.std.specs.Ordering.{int_eq}
use Rattle.homeo_lemmas.proofs.Integers.{abs_add}
use Rattle.homeo_meaning.specs.Key.{definitions as meaning_definitions}
use Rattle.homeo_meaning.specs.Small.{IsSmall}
use Rattle.homeo_plan.specs.Key.{definitions as plan_definitions}
use Rattle.homeo_plan.specs.Each.{Each}
use Rattle.homeo_plan.specs.Linear.{AreInOrder, same_delta, delta_before, deltas_of, with_term, add_term, add_terms, scale_terms}
use Rattle.homeo_plan.specs.declared.forms.Delta.{Delta}
use Rattle.homeo_plan.specs.declared.forms.Term.{Term}
use Rattle.homeo_plan.specs.Limit.{form_limit}
use Rattle.homeo_form.specs.Key.{definitions}
use Rattle.homeo_form.specs.inner.Order.{BeginsBehind, IsPlace, begins_with}
use Rattle.homeo_form.specs.inner.Terms.{AreWithin, AreSmall, AllCount, AreAddedUp, sum_limit, add_at}
use Rattle.homeo_plan.proofs.DeltaLists.{After, after_before}
use Rattle.homeo_plan.proofs.Factors.{before_total}
use Rattle.homeo_form.proofs.Orders.{before_is_other, before_is_one_way, each_at, take_drop, begins_at, begins_past, place_end, place_after, place_below}

-- ---- deltas of terms
pub drop_deltas : (ts : List Term) (n : ℕ) → deltas_of (drop n ts) ≡ drop n (deltas_of ts)
unfolding plan_definitions
drop_deltas [] zero = refl
drop_deltas [] (suc n) = refl
drop_deltas (t ∷ ts) zero = refl
drop_deltas (t ∷ ts) (suc n) = drop_deltas ts n

pub length_deltas : (ts : List Term) → length (deltas_of ts) ≡ length ts
unfolding plan_definitions
length_deltas [] = refl
length_deltas (t ∷ ts) = ap suc (length_deltas ts)

pub delta_at : (ts : List Term) (n : ℕ) (t : Term) → n < length ts → get_or (deltas_of ts) n t.delta ≡ (get_or ts n t).delta
unfolding plan_definitions
delta_at ts n t l = get_or-map (λ (u : Term). u.delta) ts n t t.delta l

append_more : {X : Type 0} (out : List X) (x : X) (more : List X) → (out ++ x ∷ []) ++ more ≡ out ++ x ∷ more
append_more [] x more = refl
append_more (y ∷ ys) x more = ap (λ l. y ∷ l) (append_more ys x more)

pub pushed_step :
    (ts : List Term) (ds es ws : List Delta) (i : ℕ) (t : Term) → i < length ts → es ≡ ds ++ (get_or ts i t).delta ∷ [] → ds ++ deltas_of (drop i ts) ≡ ws →
    es ++ deltas_of (drop (i + 1) ts) ≡ ws
unfolding plan_definitions
pushed_step ts ds es ws i t l e h =
    let next : drop i ts ≡ get_or ts i t ∷ drop (i + 1) ts = rw add-one (drop-cons ts i t l) in
    ap (λ l. l ++ deltas_of (drop (i + 1) ts)) e ∙ append_more ds (get_or ts i t).delta (deltas_of (drop (i + 1) ts))
    ∙ sym (ap (λ l. ds ++ deltas_of l) next) ∙ h

pub pushed_end : (ts : List Term) (ds ws : List Delta) (i : ℕ) → length ts ≤ i → ds ++ deltas_of (drop i ts) ≡ ws → ds ≡ ws
unfolding plan_definitions
pushed_end ts ds ws i l h = sym (append-nil ds) ∙ sym (ap (λ r. ds ++ deltas_of r) (drop_of_length-le ts l)) ∙ h

-- ---- places
pub term_place_after :
    (d : Delta) (ts : List Term) (p : ℕ) (t : Term) → AreInOrder (deltas_of ts) → 0 < p → p ≤ length ts → true ≡ delta_before (get_or ts (p - 1) t).delta d →
    BeginsBehind d (drop p (deltas_of ts)) → IsPlace d (deltas_of ts) p
term_place_after d ts p t o m l h b =
    place_after d (deltas_of ts) p t.delta o m (omega (arith, l, length_deltas ts)) (h ∙ ap (λ e. delta_before e d) (sym (delta_at ts (p - 1) t (omega (arith, m, l))))) b

pub term_place_below :
    (d : Delta) (ts : List Term) (p : ℕ) (t : Term) → 0 < p → p ≤ length ts → false ≡ delta_before (get_or ts (p - 1) t).delta d →
    BeginsBehind d (drop (p - 1) (deltas_of ts))
term_place_below d ts p t m l h =
    place_below d (deltas_of ts) p t.delta m (omega (arith, l, length_deltas ts)) (h ∙ ap (λ e. delta_before e d) (sym (delta_at ts (p - 1) t (omega (arith, m, l)))))

pub term_begins_at : (d : Delta) (ts : List Term) (p : ℕ) (t : Term) → p < length ts → begins_with d (deltas_of (drop p ts)) ≡ same_delta d (get_or ts p t).delta
term_begins_at d ts p t l =
    ap (begins_with d) (drop_deltas ts p) ∙ begins_at d (deltas_of ts) p t.delta (omega (arith, l, length_deltas ts))
    ∙ ap (same_delta d) (delta_at ts p t l)

pub term_begins_past : (d : Delta) (ts : List Term) (p : ℕ) → length ts ≤ p → begins_with d (deltas_of (drop p ts)) ≡ false
term_begins_past d ts p l = ap (begins_with d) (drop_deltas ts p) ∙ begins_past d (deltas_of ts) p (omega (arith, l, length_deltas ts))

pub place_end_of : (d : Delta) (ts : List Term) → BeginsBehind d (drop (length ts) (deltas_of ts))
place_end_of d ts = subst (λ n. BeginsBehind d (drop n (deltas_of ts))) (length_deltas ts) (place_end d (deltas_of ts))

-- ---- one more term
is_not : (b : Bool) → true ≡ not b → b ≡ false
is_not true k = k
is_not false k = refl

kept_with : (t : Term) (d : Delta) (f : ℤ) (ts : List Term) → t.delta ≡ d → t.factor ≡ f → true ≡ not (int_eq t.factor (pos 0)) → t ∷ ts ≡ with_term d f ts
unfolding plan_definitions
kept_with t d f ts e g h =
    ap (λ l. l) (whole ∙ sym (ap (λ v. cond v ts (record { delta = d; factor = f } ∷ ts)) (is_not (int_eq f (pos 0)) (h ∙ ap (λ z. not (int_eq z (pos 0))) g))))
  where
    whole : t ∷ ts ≡ record { delta = d; factor = f } ∷ ts
    whole = λ i. record { delta = e i; factor = g i } ∷ ts

none_with : (d : Delta) (f g : ℤ) (ts : List Term) → f ≡ g → false ≡ not (int_eq f (pos 0)) → ts ≡ with_term d g ts
unfolding plan_definitions
none_with d f g ts e h =
    sym (ap (λ v. cond v ts (record { delta = d; factor = g } ∷ ts)) (is_true (int_eq g (pos 0)) (h ∙ ap (λ z. not (int_eq z (pos 0))) e)))
  where
    is_true : (b : Bool) → false ≡ not b → b ≡ true
    is_true true k = refl
    is_true false k = k

added_factor :
    (ts : List Term) (n : ℕ) (f : ℤ) (x s : Term) → n < length ts → s.delta ≡ (get_or ts n x).delta → s.factor ≡ f +ℤ (get_or ts n x).factor →
    true ≡ not (int_eq s.factor (pos 0)) → set ts n s ≡ add_at n f ts
unfolding definitions
added_factor [] n f x s l e g h = absurd (omega (arith, l))
added_factor (t ∷ ts) zero f x s l e g h = kept_with s t.delta (f +ℤ t.factor) ts e g h
added_factor (t ∷ ts) (suc n) f x s l e g h = ap (λ l. t ∷ l) (added_factor ts n f x s (omega (arith, l)) e g h)

removed_factor :
    (ts : List Term) (n : ℕ) (f : ℤ) (x s : Term) → n < length ts → s.factor ≡ f +ℤ (get_or ts n x).factor →
    false ≡ not (int_eq s.factor (pos 0)) → remove ts n ≡ add_at n f ts
unfolding definitions
removed_factor [] n f x s l g h = absurd (omega (arith, l))
removed_factor (t ∷ ts) zero f x s l g h = none_with t.delta s.factor (f +ℤ t.factor) ts g h
removed_factor (t ∷ ts) (suc n) f x s l g h = ap (λ l. t ∷ l) (removed_factor ts n f x s (omega (arith, l)) g h)

pub sum_counts :
    (ts : List Term) (n : ℕ) (f : ℤ) (x s : Term) → n < length ts → x ≡ get_or ts n x → s.delta ≡ x.delta → s.factor ≡ f +ℤ x.factor →
    true ≡ not (int_eq s.factor (pos 0)) → set ts n s ≡ add_at n f ts
sum_counts ts n f x s l p e g h =
    added_factor ts n f x s l (e ∙ ap (λ (t : Term). t.delta) p) (g ∙ ap (λ (t : Term). f +ℤ t.factor) p) h

pub sum_is_none :
    (ts : List Term) (n : ℕ) (f : ℤ) (x s : Term) → n < length ts → x ≡ get_or ts n x → s.factor ≡ f +ℤ x.factor →
    false ≡ not (int_eq s.factor (pos 0)) → remove ts n ≡ add_at n f ts
sum_is_none ts n f x s l p g h = removed_factor ts n f x s l (g ∙ ap (λ (t : Term). f +ℤ t.factor) p) h

pub small_at : (m : ℕ) (ts : List Term) (n : ℕ) (x : Term) → n < length ts → x ≡ get_or ts n x → AreWithin m ts → IsSmall m x.factor
unfolding definitions
small_at m ts n x l p h = subst (λ (t : Term). IsSmall m t.factor) (sym p) (each_at (λ t. IsSmall m t.factor) ts n x l h)

add_term_split :
    (d : Delta) (f : ℤ) (ts : List Term) (n : ℕ) → Each (λ e. delta_before e d ≡ true) (take n (deltas_of ts)) →
    add_term d f ts ≡ take n ts ++ add_term d f (drop n ts)
unfolding plan_definitions
add_term_split d f [] zero h = refl
add_term_split d f [] (suc n) h = refl
add_term_split d f (t ∷ ts) zero h = refl
add_term_split d f (t ∷ ts) (suc n) h =
    ap (λ v. cond v (with_term t.delta (f +ℤ t.factor) ts) (cond (delta_before d t.delta) (with_term d f (t ∷ ts)) (t ∷ add_term d f ts))) (before_is_other d t.delta h.0)
    ∙ ap (λ v. cond v (with_term d f (t ∷ ts)) (t ∷ add_term d f ts)) (before_is_one_way d t.delta h.0)
    ∙ ap (λ l. t ∷ l) (add_term_split d f ts n h.1)

-- where the term of the delta is the first
added_first : (d : Delta) (f : ℤ) (ts : List Term) → begins_with d (deltas_of ts) ≡ true → add_term d f ts ≡ add_at 0 f ts
unfolding definitions plan_definitions
added_first d f [] h = absurd (true≢false (sym h))
added_first d f (t ∷ ts) h =
    ap (λ v. cond v (with_term t.delta (f +ℤ t.factor) ts) (cond (delta_before d t.delta) (with_term d f (t ∷ ts)) (t ∷ add_term d f ts))) h

-- where all stand behind it
added_in_front : (d : Delta) (f : ℤ) (ts : List Term) → BeginsBehind d (deltas_of ts) → begins_with d (deltas_of ts) ≡ false → add_term d f ts ≡ with_term d f ts
unfolding definitions plan_definitions
added_in_front d f [] b h = refl
added_in_front d f (t ∷ ts) b h =
    ap (λ v. cond v (with_term t.delta (f +ℤ t.factor) ts) (cond (delta_before d t.delta) (with_term d f (t ∷ ts)) (t ∷ add_term d f ts))) h
    ∙ ap (λ v. cond v (with_term d f (t ∷ ts)) (t ∷ add_term d f ts)) (before_total t.delta d (same_swap t.delta d h) b)
  where
    same_swap : (a c : Delta) → same_delta c a ≡ false → same_delta a c ≡ false
    same_swap a c h = grind (arith, nat_tests)

add_at_split : (n : ℕ) (f : ℤ) (ts : List Term) → add_at n f ts ≡ take n ts ++ add_at 0 f (drop n ts)
unfolding definitions
add_at_split zero f [] = refl
add_at_split (suc n) f [] = refl
add_at_split zero f (t ∷ ts) = refl
add_at_split (suc n) f (t ∷ ts) = ap (λ l. t ∷ l) (add_at_split n f ts)

pub begins_within : (d : Delta) (ts xs : List Term) (n : ℕ) → xs ≡ ts → true ≡ begins_with d (deltas_of (drop n xs)) → n < length ts
begins_within d ts xs n e h = go (nat_lt n (length ts)) refl
  where
    go : (b : Bool) → nat_lt n (length ts) ≡ b → n < length ts
    go true k = grind (arith, nat_tests)
    go false k =
        absurd (true≢false (h ∙ ap (λ l. begins_with d (deltas_of (drop n l))) e ∙ term_begins_past d ts n (grind (arith, nat_tests))))

pub term_summed :
    (d : Delta) (f : ℤ) (ts us xs ys : List Term) (n : ℕ) → xs ≡ ts → ys ≡ ts → IsPlace d (deltas_of xs) n →
    true ≡ begins_with d (deltas_of (drop n ys)) → us ≡ add_at n f ts → us ≡ add_term d f ts
term_summed d f ts us xs ys n x y p h e =
    let q : IsPlace d (deltas_of ts) n = subst (λ l. IsPlace d (deltas_of l) n) x p in
    e ∙ add_at_split n f ts
    ∙ ap (λ l. take n ts ++ l) (sym (added_first d f (drop n ts) (sym (h ∙ ap (λ l. begins_with d (deltas_of (drop n l))) y))))
    ∙ sym (add_term_split d f ts n q.before)

behind_of : (d : Delta) (ts : List Term) (n : ℕ) → IsPlace d (deltas_of ts) n → BeginsBehind d (deltas_of (drop n ts))
behind_of d ts n q = subst (BeginsBehind d) (sym (drop_deltas ts n)) q.behind

pub term_inserted :
    (t : Term) (ts us xs ys : List Term) (n : ℕ) → xs ≡ ts → ys ≡ ts → IsPlace t.delta (deltas_of xs) n →
    false ≡ begins_with t.delta (deltas_of (drop n ys)) → true ≡ not (int_eq t.factor (pos 0)) → us ≡ insert ts n t → us ≡ add_term t.delta t.factor ts
term_inserted t ts us xs ys n x y p h k e =
    let q : IsPlace t.delta (deltas_of ts) n = subst (λ l. IsPlace t.delta (deltas_of l) n) x p in
    e
    ∙ ap (λ l. take n ts ++ l)
    (kept_with t t.delta t.factor (drop n ts) refl refl k
    ∙ sym (added_in_front t.delta t.factor (drop n ts) (behind_of t.delta ts n q) (sym (h ∙ ap (λ l. begins_with t.delta (deltas_of (drop n l))) y))))
    ∙ sym (add_term_split t.delta t.factor ts n q.before)

pub term_none :
    (t : Term) (ts xs ys : List Term) (n : ℕ) → xs ≡ ts → ys ≡ ts → IsPlace t.delta (deltas_of xs) n →
    false ≡ begins_with t.delta (deltas_of (drop n ys)) → false ≡ not (int_eq t.factor (pos 0)) → ts ≡ add_term t.delta t.factor ts
term_none t ts xs ys n x y p h k =
    let q : IsPlace t.delta (deltas_of ts) n = subst (λ l. IsPlace t.delta (deltas_of l) n) x p in
    sym (take_drop ts n)
    ∙ ap (λ l. take n ts ++ l)
    (none_with t.delta t.factor t.factor (drop n ts) refl k
    ∙ sym (added_in_front t.delta t.factor (drop n ts) (behind_of t.delta ts n q) (sym (h ∙ ap (λ l. begins_with t.delta (deltas_of (drop n l))) y))))
    ∙ sym (add_term_split t.delta t.factor ts n q.before)

-- ---- terms stay in order
after_with : (c d : Delta) (f : ℤ) (ts : List Term) → delta_before c d ≡ true → After c (deltas_of ts) → After c (deltas_of (with_term d f ts))
unfolding plan_definitions
after_with c d f ts h a = go (int_eq f (pos 0))
  where
    go : (v : Bool) → After c (deltas_of (cond v ts (record { delta = d; factor = f } ∷ ts)))
    go true = a
    go false = (h, a)

after_add : (c d : Delta) (f : ℤ) (ts : List Term) → delta_before c d ≡ true → After c (deltas_of ts) → After c (deltas_of (add_term d f ts))
unfolding plan_definitions
after_add c d f [] h a = after_with c d f [] h a
after_add c d f (t ∷ ts) h a = go (same_delta d t.delta) (delta_before d t.delta) (after_add c d f ts h a.1)
  where
    go :
        (v w : Bool) → After c (deltas_of (add_term d f ts)) →
        After c (deltas_of (cond v (with_term t.delta (f +ℤ t.factor) ts) (cond w (with_term d f (t ∷ ts)) (t ∷ add_term d f ts))))
    go true w ih = after_with c t.delta (f +ℤ t.factor) ts a.0 a.1
    go false true ih = after_with c d f (t ∷ ts) h a
    go false false ih = (a.0, ih)

after_scale : (c : Delta) (n : ℤ) (ts : List Term) → After c (deltas_of ts) → After c (deltas_of (scale_terms n ts))
unfolding plan_definitions
after_scale c n [] a = tt
after_scale c n (t ∷ ts) a = after_with c t.delta (n *ℤ t.factor) (scale_terms n ts) a.0 (after_scale c n ts a.1)

order_with : (d : Delta) (f : ℤ) (ts : List Term) → After d (deltas_of ts) → AreInOrder (deltas_of ts) → AreInOrder (deltas_of (with_term d f ts))
unfolding plan_definitions
order_with d f ts a o = go (int_eq f (pos 0))
  where
    go : (v : Bool) → AreInOrder (deltas_of (cond v ts (record { delta = d; factor = f } ∷ ts)))
    go true = o
    go false = (a, o)

order_add : (d : Delta) (f : ℤ) (ts : List Term) → AreInOrder (deltas_of ts) → AreInOrder (deltas_of (add_term d f ts))
unfolding plan_definitions
order_add d f [] o = order_with d f [] tt tt
order_add d f (t ∷ ts) o = go (same_delta d t.delta) refl (delta_before d t.delta) refl (order_add d f ts o.1)
  where
    go :
        (v : Bool) → same_delta d t.delta ≡ v → (w : Bool) → delta_before d t.delta ≡ w → AreInOrder (deltas_of (add_term d f ts)) →
        AreInOrder (deltas_of (cond v (with_term t.delta (f +ℤ t.factor) ts) (cond w (with_term d f (t ∷ ts)) (t ∷ add_term d f ts))))
    go true p w q ih = order_with t.delta (f +ℤ t.factor) ts o.0 o.1
    go false p true q ih = order_with d f (t ∷ ts) (q, after_before d t.delta (deltas_of ts) q o.0) o
    go false p false q ih = (after_add t.delta d f ts (before_total d t.delta p q) o.0, ih)

pub order_adds : (ts us : List Term) → AreInOrder (deltas_of us) → AreInOrder (deltas_of (add_terms ts us))
unfolding plan_definitions
order_adds [] us o = o
order_adds (t ∷ ts) us o = order_adds ts (add_term t.delta t.factor us) (order_add t.delta t.factor us o)

pub order_scale : (n : ℤ) (ts : List Term) → AreInOrder (deltas_of ts) → AreInOrder (deltas_of (scale_terms n ts))
unfolding plan_definitions
order_scale n [] o = tt
order_scale n (t ∷ ts) o =
    order_with t.delta (n *ℤ t.factor) (scale_terms n ts) (after_scale t.delta n ts o.0) (order_scale n ts o.1)

pub place_within : (d : Delta) (xs : List Term) (n m : ℕ) → length xs ≡ m → IsPlace d (deltas_of xs) n → n ≤ m
place_within d xs n m e p = omega (arith, e, p.within, length_deltas xs)

-- ---- factors stay small
pub wider : (m n : ℕ) (f : ℤ) → m ≤ n → IsSmall m f → IsSmall n f
unfolding meaning_definitions
wider m n f l h = omega (arith, l, h)

sum_within : (m n : ℕ) (f g : ℤ) → IsSmall m f → IsSmall n g → IsSmall (m + n) (f +ℤ g)
unfolding meaning_definitions
sum_within m n f g h k = omega (arith, h, k, abs_add f g)

pub all_wider : (m n : ℕ) (ts : List Term) → m ≤ n → AreWithin m ts → AreWithin n ts
unfolding definitions plan_definitions
all_wider m n [] l h = tt
all_wider m n (t ∷ ts) l h = (wider m n t.factor l h.0, all_wider m n ts l h.1)

within_with : (n : ℕ) (d : Delta) (f : ℤ) (ts : List Term) → IsSmall n f → AreWithin n ts → AreWithin n (with_term d f ts)
unfolding definitions plan_definitions
within_with n d f ts h k = go (int_eq f (pos 0))
  where
    go : (v : Bool) → AreWithin n (cond v ts (record { delta = d; factor = f } ∷ ts))
    go true = k
    go false = (h, k)

within_add : (m n : ℕ) (d : Delta) (f : ℤ) (ts : List Term) → IsSmall m f → AreWithin n ts → AreWithin (m + n) (add_term d f ts)
unfolding definitions plan_definitions
within_add m n d f [] h k = within_with (m + n) d f [] (wider m (m + n) f (omega arith) h) tt
within_add m n d f (t ∷ ts) h k = go (same_delta d t.delta) (delta_before d t.delta) (within_add m n d f ts h k.1)
  where
    rest : AreWithin (m + n) ts
    rest = all_wider n (m + n) ts (omega arith) k.1

    first : IsSmall (m + n) t.factor
    first = wider n (m + n) t.factor (omega arith) k.0

    go :
        (v w : Bool) → AreWithin (m + n) (add_term d f ts) →
        AreWithin (m + n) (cond v (with_term t.delta (f +ℤ t.factor) ts) (cond w (with_term d f (t ∷ ts)) (t ∷ add_term d f ts)))
    go true w ih = within_with (m + n) t.delta (f +ℤ t.factor) ts (sum_within m n f t.factor h k.0) rest
    go false true ih = within_with (m + n) d f (t ∷ ts) (wider m (m + n) f (omega arith) h) (first, rest)
    go false false ih = (first, ih)

pub small_next : (ts : List Term) (i : ℕ) (x : Term) → i < length ts → AreSmall ts → IsSmall form_limit (get_or ts i x).factor
unfolding definitions
small_next ts i x l s = each_at (λ t. IsSmall form_limit t.factor) ts i x l s

pub limit_wider : (f : ℤ) → IsSmall form_limit f → IsSmall sum_limit f
limit_wider f h = wider form_limit sum_limit f (omega arith) h

-- ---- all of them
pub record AddStep (ts us ws : List Term) (i : ℕ) : Type 0 where
  pub order : AreInOrder (deltas_of us)
  pub within : AreWithin (i * form_limit) us
  pub left : add_terms (drop i ts) us ≡ ws

pub add_start : (ts us : List Term) → us ≡ [] → AddStep ts us (add_terms ts []) 0
unfolding definitions plan_definitions
add_start ts us p = record {
  order = subst (λ l. AreInOrder (deltas_of l)) (sym p) tt;
  within = subst (AreWithin 0) (sym p) tt;
  left = ap (add_terms ts) p;
}

pub add_step :
    (ts us vs ws : List Term) (i : ℕ) (x : Term) → i < length ts → AreSmall ts → vs ≡ add_term (get_or ts i x).delta (get_or ts i x).factor us →
    AddStep ts us ws i → AddStep ts vs ws (i + 1)
unfolding definitions plan_definitions
add_step ts us vs ws i x l s e k =
    let t : Term = get_or ts i x in
    let next : drop i ts ≡ t ∷ drop (i + 1) ts = rw add-one (drop-cons ts i x l) in
    let more : form_limit + i * form_limit ≡ (i + 1) * form_limit = omega arith in
    record {
      order = subst (λ l. AreInOrder (deltas_of l)) (sym e) (order_add t.delta t.factor us k.order);
      within = subst (AreWithin ((i + 1) * form_limit)) (sym e)
          (subst (λ n. AreWithin n (add_term t.delta t.factor us)) more (within_add form_limit (i * form_limit) t.delta t.factor us (small_next ts i x l s) k.within));
      left = ap (add_terms (drop (i + 1) ts)) e ∙ sym (ap (λ l. add_terms l us) next) ∙ k.left;
    }

pub add_end : (ts us ws : List Term) (i : ℕ) → length ts ≤ i → add_terms (drop i ts) us ≡ ws → us ≡ ws
unfolding plan_definitions
add_end ts us ws i l h = sym (ap (λ r. add_terms r us) (drop_of_length-le ts l)) ∙ h

-- ---- terms multiplied
-- the terms so far, and those that are still to be multiplied
abbrev pub scaling_from : ℤ → List Term → List Term → List Term
scaling_from n out rest = out ++ scale_terms n rest

next_scaled :
    (n : ℤ) (ts : List Term) (i : ℕ) (x s : Term) → i < length ts → s.delta ≡ (get_or ts i x).delta → s.factor ≡ n *ℤ (get_or ts i x).factor →
    scale_terms n (drop i ts) ≡ with_term s.delta s.factor (scale_terms n (drop (i + 1) ts))
unfolding plan_definitions
next_scaled n ts i x s l p q =
    let t : Term = get_or ts i x in
    let rest : List Term = scale_terms n (drop (i + 1) ts) in
    let next : drop i ts ≡ t ∷ drop (i + 1) ts = rw add-one (drop-cons ts i x l) in
    ap (scale_terms n) next ∙ ap (λ d. with_term d (n *ℤ t.factor) rest) (sym p) ∙ ap (λ f. with_term s.delta f rest) (sym q)

pub scaled_kept :
    (n : ℤ) (out ts : List Term) (i : ℕ) (x s : Term) → i < length ts → s.delta ≡ (get_or ts i x).delta → s.factor ≡ n *ℤ (get_or ts i x).factor →
    true ≡ not (int_eq s.factor (pos 0)) → scaling_from n (out ++ s ∷ []) (drop (i + 1) ts) ≡ scaling_from n out (drop i ts)
scaled_kept n out ts i x s l p q h =
    let rest : List Term = scale_terms n (drop (i + 1) ts) in
    append_more out s rest
    ∙ ap (λ m. out ++ m) (kept_with s s.delta s.factor rest refl refl h ∙ sym (next_scaled n ts i x s l p q))

pub scaled_none :
    (n : ℤ) (out ts : List Term) (i : ℕ) (x s : Term) → i < length ts → s.delta ≡ (get_or ts i x).delta → s.factor ≡ n *ℤ (get_or ts i x).factor →
    false ≡ not (int_eq s.factor (pos 0)) → scaling_from n out (drop (i + 1) ts) ≡ scaling_from n out (drop i ts)
scaled_none n out ts i x s l p q h =
    let rest : List Term = scale_terms n (drop (i + 1) ts) in
    ap (λ m. out ++ m) (none_with s.delta s.factor s.factor rest refl h ∙ sym (next_scaled n ts i x s l p q))

pub scaled_end : (n : ℤ) (out ts : List Term) (i : ℕ) → length ts ≤ i → out ≡ scaling_from n out (drop i ts)
unfolding plan_definitions
scaled_end n out ts i l = sym (ap (λ r. out ++ scale_terms n r) (drop_of_length-le ts l) ∙ append-nil out)

-- ---- terms with their signs turned
abbrev pub turned : Term → Term
turned t = record { delta = t.delta; factor = negsuc 0 *ℤ t.factor }

-- a term whose sign isn't turned yet
pub left_at : (ts us : List Term) (i : ℕ) (x : Term) → i < length ts → us ≡ map turned (take i ts) ++ drop i ts → get_or us i x ≡ get_or ts i x
left_at ts us i x l h =
    let front : length (map turned (take i ts)) ≡ i = length-map (take i ts) turned ∙ length-take-le i ts (omega (arith, l)) in
    let at : i + (i - i) ≡ i = omega arith in
    ap (λ vs. get_or vs i x) h ∙ get_or-append_right (map turned (take i ts)) (drop i ts) i i x front (omega arith) ∙ get_or-drop i ts (i - i) x
    ∙ ap (λ n. get_or ts n x) at

pub turned_more :
    (ts us : List Term) (i : ℕ) (x s : Term) → i < length ts → us ≡ map turned (take i ts) ++ drop i ts → x ≡ get_or us i x → s.delta ≡ x.delta →
    s.factor ≡ negsuc 0 *ℤ x.factor → set us i s ≡ map turned (take (i + 1) ts) ++ drop (i + 1) ts
turned_more ts us i x s l h p d f =
    let is : s ≡ turned x = λ j. record { delta = d j; factor = f j } in
    ap (set us i) is ∙ map_over_more turned ts us i x l h p

still_counts : (f : ℤ) → int_eq f (pos 0) ≡ false → int_eq (negsuc 0 *ℤ f) (pos 0) ≡ false
still_counts f h = grind (arith, ints, Decides-int_eq f (pos 0), Decides-int_eq (negsuc 0 *ℤ f) (pos 0))

all_turned : (ts : List Term) → AllCount ts → map turned ts ≡ scale_terms (negsuc 0) ts
unfolding definitions plan_definitions
all_turned [] c = refl
all_turned (t ∷ ts) c =
    ap (λ l. turned t ∷ l) (all_turned ts c.1)
    ∙ sym (ap (λ v. cond v (scale_terms (negsuc 0) ts) (turned t ∷ scale_terms (negsuc 0) ts)) (still_counts t.factor c.0))

pub turned_end : (ts us : List Term) (i : ℕ) → length ts ≤ i → AllCount ts → us ≡ map turned (take i ts) ++ drop i ts → us ≡ scale_terms (negsuc 0) ts
turned_end ts us i l c h =
    h ∙ ap₂ (λ vs ws. map turned vs ++ ws) (take_all i ts l) (drop_of_length-le ts l) ∙ append-nil (map turned ts) ∙ all_turned ts c

-- ---- terms that are added up already
no_rest : (ts : List Term) → drop (length ts) ts ≡ []
no_rest [] = refl
no_rest (t ∷ ts) = no_rest ts

pub none_left_added_up : (ts : List Term) → AreAddedUp (drop (length ts) ts)
unfolding definitions plan_definitions
none_left_added_up ts = subst AreAddedUp (sym (no_rest ts)) (record { order = tt; counts = tt })

lead_of : (ts : List Term) (n : ℕ) (x : Term) → n < length ts → true ≡ not (int_eq (get_or ts n x).factor (pos 0)) →
    (suc n < length ts → true ≡ delta_before (get_or ts n x).delta (get_or ts (suc n) x).delta) → AreAddedUp (drop (suc n) ts) → AreAddedUp (drop n ts)
unfolding definitions plan_definitions
lead_of [] n x l c b o = absurd (omega (arith, l))
lead_of (t ∷ []) zero x l c b o = record { order = (tt, tt); counts = (is_not (int_eq t.factor (pos 0)) c, tt) }
lead_of (t ∷ u ∷ us) zero x l c b o =
    let h : delta_before t.delta u.delta ≡ true = sym (b (omega arith)) in
    record {
      order = ((h, after_before t.delta u.delta (deltas_of us) h o.order.0), o.order);
      counts = (is_not (int_eq t.factor (pos 0)) c, o.counts);
    }
lead_of (t ∷ ts) (suc n) x l c b o = lead_of ts n x (omega (arith, l)) c (λ k. b (omega (arith, k))) o

pub leads_at :
    (ts : List Term) (n : ℕ) (x : Term) → n < length ts → true ≡ not (int_eq (get_or ts n x).factor (pos 0)) →
    (n + 1 < length ts → true ≡ delta_before (get_or ts n x).delta (get_or ts (n + 1) x).delta) → AreAddedUp (drop (n + 1) ts) → AreAddedUp (drop n ts)
leads_at ts n x l c b o =
    let e : n + 1 ≡ suc n = omega arith in
    lead_of ts n x l c
    (λ k. b (omega (arith, k)) ∙ ap (λ m. delta_before (get_or ts n x).delta (get_or ts m x).delta) e) (subst (λ m. AreAddedUp (drop m ts)) e o)
