-- Deltas in order: where one stands among them, and one more.
use Rattle.std.proofs.Common.{◌≡◌, ℕ, zero, suc, ◌+◌, ◌-◌, ◌<◌, ◌≤◌, true, false, cond, List, [], ◌∷◌, ◌++◌, take, drop, get_or, length, refl, sym, ap, ◌∙◌, subst, true≢false, add-one, drop_of_length-le, arith}
use Rattle.std.proofs.Math.Seq.{drop-cons}
use Rattle.std.specs.List.{insert}
use Rattle.std.proofs.lemmas.Bool.Decides.{nat_tests}
use Rattle.homeo_plan.specs.Key.{definitions as plan_definitions}
use Rattle.homeo_plan.specs.Each.{Each}
use Rattle.homeo_plan.specs.Linear.{AreInOrder, same_delta, delta_before, add_delta, add_deltas}
use Rattle.homeo_plan.specs.declared.forms.Delta.{Delta}
use Rattle.homeo_plan.proofs.DeltaLists.{in_order_add}
use Rattle.homeo_plan.proofs.Factors.{before_trans, before_total}
use Rattle.homeo_form.specs.Key.{definitions}
use Rattle.homeo_form.specs.inner.Order.{BeginsBehind, IsPlace, begins_with}

-- ---- the order
pub before_is_other : (d e : Delta) → delta_before e d ≡ true → same_delta d e ≡ false
unfolding plan_definitions
before_is_other d e h = grind (arith, nat_tests)

pub before_is_one_way : (d e : Delta) → delta_before e d ≡ true → delta_before d e ≡ false
unfolding plan_definitions
before_is_one_way d e h = grind (arith, nat_tests)

-- ---- places
pub each_at : {X : Type 0} (P : X → Type 0) (xs : List X) (n : ℕ) (x : X) → n < length xs → Each P xs → P (get_or xs n x)
unfolding plan_definitions
each_at P [] n x l h = absurd (omega (arith, l))
each_at P (y ∷ ys) zero x l h = h.0
each_at P (y ∷ ys) (suc n) x l h = each_at P ys n x (omega (arith, l)) h.1

before_all : (d : Delta) (ds : List Delta) (n : ℕ) (x : Delta) → AreInOrder ds → n < length ds → delta_before (get_or ds n x) d ≡ true → Each (λ e. delta_before e d ≡ true) (take (suc n) ds)
unfolding plan_definitions
before_all d [] n x o l h = absurd (omega (arith, l))
before_all d (e ∷ es) zero x o l h = (h, tt)
before_all d (e ∷ es) (suc n) x o l h =
    let k : n < length es = omega (arith, l) in
    (before_trans e (get_or es n x) d (each_at (λ y. delta_before e y ≡ true) es n x k o.0) h, before_all d es n x o.1 k h)

begins_behind : (d : Delta) (ds : List Delta) (n : ℕ) (x : Delta) → n < length ds → delta_before (get_or ds n x) d ≡ false → BeginsBehind d (drop n ds)
unfolding definitions plan_definitions
begins_behind d [] n x l h = absurd (omega (arith, l))
begins_behind d (e ∷ es) zero x l h = h
begins_behind d (e ∷ es) (suc n) x l h = begins_behind d es n x (omega (arith, l)) h

pub place_end : (d : Delta) (ds : List Delta) → BeginsBehind d (drop (length ds) ds)
unfolding definitions
place_end d [] = tt
place_end d (e ∷ es) = place_end d es

-- one stands before it, and so do those before that one
pub place_after :
    (d : Delta) (ds : List Delta) (p : ℕ) (x : Delta) → AreInOrder ds → 0 < p → p ≤ length ds → true ≡ delta_before (get_or ds (p - 1) x) d →
    BeginsBehind d (drop p ds) → IsPlace d ds p
place_after d ds p x o m l h b =
    let e : suc (p - 1) ≡ p = omega (arith, m) in
    record {
      within = l;
      before = subst (λ n. Each (λ y. delta_before y d ≡ true) (take n ds)) e (before_all d ds (p - 1) x o (omega (arith, m, l)) (sym h));
      behind = b;
    }

-- one doesn't, and so does none from it on
pub place_below : (d : Delta) (ds : List Delta) (p : ℕ) (x : Delta) → 0 < p → p ≤ length ds → false ≡ delta_before (get_or ds (p - 1) x) d → BeginsBehind d (drop (p - 1) ds)
place_below d ds p x m l h = begins_behind d ds (p - 1) x (omega (arith, m, l)) (sym h)

-- none stands before it
pub place_first : (d : Delta) (ds : List Delta) (p : ℕ) → p ≤ 0 → BeginsBehind d (drop p ds) → IsPlace d ds 0
unfolding plan_definitions
place_first d ds p l b =
    let e : p ≡ 0 = omega (arith, l) in
    record { within = omega arith; before = tt; behind = subst (λ n. BeginsBehind d (drop n ds)) e b }

pub begins_at : (d : Delta) (ds : List Delta) (p : ℕ) (x : Delta) → p < length ds → begins_with d (drop p ds) ≡ same_delta d (get_or ds p x)
unfolding definitions
begins_at d [] p x l = absurd (omega (arith, l))
begins_at d (e ∷ es) zero x l = refl
begins_at d (e ∷ es) (suc p) x l = begins_at d es p x (omega (arith, l))

pub begins_past : (d : Delta) (ds : List Delta) (p : ℕ) → length ds ≤ p → begins_with d (drop p ds) ≡ false
unfolding definitions
begins_past d [] zero l = refl
begins_past d [] (suc p) l = refl
begins_past d (e ∷ es) zero l = absurd (omega (arith, l))
begins_past d (e ∷ es) (suc p) l = begins_past d es p (omega (arith, l))

-- ---- one more
add_split : (d : Delta) (ds : List Delta) (n : ℕ) → Each (λ e. delta_before e d ≡ true) (take n ds) → add_delta d ds ≡ take n ds ++ add_delta d (drop n ds)
unfolding plan_definitions
add_split d [] zero h = refl
add_split d [] (suc n) h = refl
add_split d (e ∷ es) zero h = refl
add_split d (e ∷ es) (suc n) h =
    ap (λ v. cond v (e ∷ es) (cond (delta_before d e) (d ∷ e ∷ es) (e ∷ add_delta d es))) (before_is_other d e h.0)
    ∙ ap (λ v. cond v (d ∷ e ∷ es) (e ∷ add_delta d es)) (before_is_one_way d e h.0)
    ∙ ap (λ l. e ∷ l) (add_split d es n h.1)

pub take_drop : {X : Type 0} (xs : List X) (n : ℕ) → take n xs ++ drop n xs ≡ xs
take_drop [] zero = refl
take_drop [] (suc n) = refl
take_drop (x ∷ xs) zero = refl
take_drop (x ∷ xs) (suc n) = ap (λ l. x ∷ l) (take_drop xs n)

added_at : (d : Delta) (ds : List Delta) → BeginsBehind d ds → begins_with d ds ≡ false → add_delta d ds ≡ d ∷ ds
unfolding definitions plan_definitions
added_at d [] b h = refl
added_at d (e ∷ es) b h =
    ap (λ v. cond v (e ∷ es) (cond (delta_before d e) (d ∷ e ∷ es) (e ∷ add_delta d es))) h
    ∙ ap (λ v. cond v (d ∷ e ∷ es) (e ∷ add_delta d es)) (before_total e d (same_swap e d h) b)
  where
    same_swap : (a c : Delta) → same_delta c a ≡ false → same_delta a c ≡ false
    same_swap a c h = grind (arith, nat_tests)

there_already : (d : Delta) (ds : List Delta) → begins_with d ds ≡ true → add_delta d ds ≡ ds
unfolding definitions plan_definitions
there_already d [] h = absurd (true≢false (sym h))
there_already d (e ∷ es) h =
    ap (λ v. cond v (e ∷ es) (cond (delta_before d e) (d ∷ e ∷ es) (e ∷ add_delta d es))) h

pub delta_inserted :
    (d : Delta) (ds es xs ys : List Delta) (n : ℕ) → xs ≡ ds → ys ≡ ds → IsPlace d xs n → false ≡ begins_with d (drop n ys) → es ≡ insert ds n d →
    es ≡ add_delta d ds
delta_inserted d ds es xs ys n x y p h e =
    let q : IsPlace d ds n = subst (λ l. IsPlace d l n) x p in
    let k : begins_with d (drop n ds) ≡ false = sym (h ∙ ap (λ l. begins_with d (drop n l)) y) in
    e ∙ ap (λ l. take n ds ++ l) (sym (added_at d (drop n ds) q.behind k)) ∙ sym (add_split d ds n q.before)

pub delta_kept : (d : Delta) (ds xs ys : List Delta) (n : ℕ) → xs ≡ ds → ys ≡ ds → IsPlace d xs n → true ≡ begins_with d (drop n ys) → ds ≡ add_delta d ds
delta_kept d ds xs ys n x y p h =
    let q : IsPlace d ds n = subst (λ l. IsPlace d l n) x p in
    let k : begins_with d (drop n ds) ≡ true = sym (h ∙ ap (λ l. begins_with d (drop n l)) y) in
    sym (add_split d ds n q.before ∙ ap (λ l. take n ds ++ l) (there_already d (drop n ds) k) ∙ take_drop ds n)

-- ---- all of them
pub adds_start : (ds es : List Delta) → es ≡ [] → AreInOrder es × (add_deltas ds es ≡ add_deltas ds [])
unfolding plan_definitions
adds_start ds es p = (subst AreInOrder (sym p) tt, ap (add_deltas ds) p)

pub adds_step :
    (ds es fs ws : List Delta) (i : ℕ) (x : Delta) → i < length ds → AreInOrder es → fs ≡ add_delta (get_or ds i x) es → add_deltas (drop i ds) es ≡ ws →
    AreInOrder fs × (add_deltas (drop (i + 1) ds) fs ≡ ws)
unfolding plan_definitions
adds_step ds es fs ws i x l o e h =
    let next : drop i ds ≡ get_or ds i x ∷ drop (i + 1) ds = rw add-one (drop-cons ds i x l) in
    (subst AreInOrder (sym e) (in_order_add (get_or ds i x) es o), ap (add_deltas (drop (i + 1) ds)) e ∙ sym (ap (λ l. add_deltas l es) next) ∙ h)

pub adds_end : (ds es ws : List Delta) (i : ℕ) → length ds ≤ i → add_deltas (drop i ds) es ≡ ws → es ≡ ws
unfolding plan_definitions
adds_end ds es ws i l h = sym (ap (λ r. add_deltas r es) (drop_of_length-le ds l)) ∙ h
