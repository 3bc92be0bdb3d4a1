-- Deltas put together: it matters not in which order they are added.
use Rattle.std.proofs.Common.{◌≡◌, ℕ, zero, suc, ◌+◌, ◌<◌, Bool, true, false, ◌||◌, List, [], ◌∷◌, ◌++◌, drop, get_or, length, refl, sym, ap, ◌∙◌, subst, arith}
use Rattle.std.specs.List.Sorted.{IsPermutation}
use Rattle.std.proofs.lemmas.List.Sorted.{list_any-IsPermutation}
use Rattle.homeo_lemmas.proofs.Bools.{or_false}
use Rattle.homeo_plan.specs.Key.{definitions as plan_definitions}
use Rattle.homeo_plan.specs.Linear.{AreInOrder, same_delta, delta_before, add_delta, add_deltas}
use Rattle.homeo_plan.specs.declared.forms.Delta.{Delta}
use Rattle.homeo_plan.proofs.DeltaLists.{has, has_adds, or_move, after_before, in_order_adds, same_deltas}

or_comm : (a b : Bool) → (a || b) ≡ (b || a)
or_comm true true = refl
or_comm true false = refl
or_comm false true = refl
or_comm false false = refl

-- ---- what they are put together
same_by : (ds es : List Delta) → AreInOrder es → ((d : Delta) → has d es ≡ has d ds) → es ≡ add_deltas ds []
unfolding plan_definitions
same_by ds es o h = same_deltas es (add_deltas ds []) o (in_order_adds ds [] tt) (λ d. h d ∙ sym (has_adds d ds [] ∙ or_false (has d ds)))

pub in_order_kept : (ds : List Delta) → AreInOrder ds → ds ≡ add_deltas ds []
in_order_kept ds o = same_by ds ds o (λ d. refl)

pub permuted_same : (ds es : List Delta) → IsPermutation ds es → add_deltas es [] ≡ add_deltas ds []
unfolding plan_definitions
permuted_same ds es p =
    same_by ds (add_deltas es []) (in_order_adds es [] tt)
    (λ d. has_adds d es [] ∙ or_false (has d es) ∙ sym (list_any-IsPermutation (same_delta d) ds es p))

pub adds_swap : (ds es : List Delta) → AreInOrder ds → AreInOrder es → add_deltas ds es ≡ add_deltas es ds
adds_swap ds es o p =
    same_deltas (add_deltas ds es) (add_deltas es ds) (in_order_adds ds es p) (in_order_adds es ds o)
    (λ d. has_adds d ds es ∙ or_comm (has d ds) (has d es) ∙ sym (has_adds d es ds))

-- deltas put into others that are put into more
pub adds_into : (ds es fs : List Delta) → AreInOrder fs → add_deltas ds (add_deltas es fs) ≡ add_deltas (add_deltas ds es) fs
adds_into ds es fs o =
    same_deltas (add_deltas ds (add_deltas es fs)) (add_deltas (add_deltas ds es) fs) (in_order_adds ds (add_deltas es fs) (in_order_adds es fs o))
    (in_order_adds (add_deltas ds es) fs o)
    (λ d. has_adds d ds (add_deltas es fs) ∙ ap (λ v. has d ds || v) (has_adds d es fs) ∙ or_move (has d ds) (has d es) (has d fs)
    ∙ ap (λ v. v || has d fs) (or_comm (has d es) (has d ds)) ∙ sym (has_adds d (add_deltas ds es) fs ∙ ap (λ v. v || has d fs) (has_adds d ds es)))

pub adds_append : (ds es fs : List Delta) → add_deltas (ds ++ es) fs ≡ add_deltas es (add_deltas ds fs)
unfolding plan_definitions
adds_append [] es fs = refl
adds_append (d ∷ ds) es fs = adds_append ds es (add_delta d fs)

-- ---- deltas that are in order
no_rest : (ds : List Delta) → drop (length ds) ds ≡ []
no_rest [] = refl
no_rest (d ∷ ds) = no_rest ds

pub no_delta_left : (ds : List Delta) → AreInOrder (drop (length ds) ds)
unfolding plan_definitions
no_delta_left ds = subst AreInOrder (sym (no_rest ds)) tt

lead_of : (ds : List Delta) (n : ℕ) (x : Delta) → n < length ds → (suc n < length ds → true ≡ delta_before (get_or ds n x) (get_or ds (suc n) x)) →
    AreInOrder (drop (suc n) ds) → AreInOrder (drop n ds)
unfolding plan_definitions
lead_of [] n x l b o = absurd (omega (arith, l))
lead_of (d ∷ []) zero x l b o = (tt, tt)
lead_of (d ∷ e ∷ es) zero x l b o =
    let h : delta_before d e ≡ true = sym (b (omega arith)) in
    ((h, after_before d e es h o.0), o)
lead_of (d ∷ ds) (suc n) x l b o = lead_of ds n x (omega (arith, l)) (λ k. b (omega (arith, k))) o

pub leads_at : (ds : List Delta) (n : ℕ) (x : Delta) → n < length ds → (n + 1 < length ds → true ≡ delta_before (get_or ds n x) (get_or ds (n + 1) x)) →
    AreInOrder (drop (n + 1) ds) → AreInOrder (drop n ds)
leads_at ds n x l b o =
    let e : n + 1 ≡ suc n = omega arith in
    lead_of ds n x l (λ k. b (omega (arith, k)) ∙ ap (λ m. delta_before (get_or ds n x) (get_or ds m x)) e) (subst (λ m. AreInOrder (drop m ds)) e o)
