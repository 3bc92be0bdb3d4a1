-- A delta's factor among terms in order, by the place that is found for it by halving.
use Rattle.std.proofs.Common.{◌≡◌, ℕ, zero, suc, ◌<◌, ◌≤◌, Bool, true, false, cond, List, [], ◌∷◌, take, drop, slice_index_or, length, ℤ, pos, ◌+ℤ◌, refl, sym, ap, ◌∙◌, subst, arith}
use Rattle.std.specs.List.Sorted.{IsPartitionedBy}
use Rattle.std.proofs.lemmas.Bool.Decides.{nat_tests}
use Rattle.homeo_lemmas.proofs.Integers.{zero_plus, plus_zero}
use Rattle.homeo_plan.specs.Key.{definitions as plan_definitions}
use Rattle.homeo_plan.specs.Each.{Each}
use Rattle.homeo_plan.specs.Linear.{AreInOrder, same_delta, delta_before, deltas_of}
use Rattle.homeo_plan.specs.declared.forms.Delta.{Delta}
use Rattle.homeo_plan.specs.declared.forms.Term.{Term}
use Rattle.homeo_form.specs.Key.{definitions}
use Rattle.homeo_form.specs.inner.Order.{BeginsBehind, IsPlace}
use Rattle.homeo_form.specs.inner.Terms.{share, factor_at}
use Rattle.homeo_form.proofs.Adding.{length_deltas}
use Rattle.homeo_plan.proofs.DeltaLists.{After, after_before}
use Rattle.homeo_plan.proofs.Factors.{same_delta_is, before_total, before_trans}
use Rattle.homeo_form.proofs.Orders.{before_is_other}
use Rattle.homeo_form.proofs.TermsAddedUp.{above_none}

-- ---- the place
after_at : (c : Delta) (ts : List Term) (n : ℕ) (x : Term) → n < length ts → After c (deltas_of ts) → delta_before c (slice_index_or ts n x).delta ≡ true
unfolding plan_definitions
after_at c [] n x l a = absurd (omega (arith, l))
after_at c (t ∷ ts) zero x l a = a.0
after_at c (t ∷ ts) (suc n) x l a = after_at c ts n x (omega (arith, l)) a.1

pub parted : (d : Delta) (ts : List Term) → AreInOrder (deltas_of ts) → IsPartitionedBy (λ (t : Term). delta_before t.delta d) ts
unfolding plan_definitions
parted d [] order i j x l m p = absurd (omega (arith, m))
parted d (t ∷ ts) order zero zero x l m p = p
parted d (t ∷ ts) order zero (suc j) x l m p =
    before_trans t.delta (slice_index_or ts j x).delta d (after_at t.delta ts j x (omega (arith, m)) order.0) p
parted d (t ∷ ts) order (suc i) zero x l m p = absurd (omega (arith, l))
parted d (t ∷ ts) order (suc i) (suc j) x l m p = parted d ts order.1 i j x (omega (arith, l)) (omega (arith, m)) p

all_before : (d : Delta) (ts : List Term) (n : ℕ) (x : Term) → n ≤ length ts → ((k : ℕ) → k < n → delta_before (slice_index_or ts k x).delta d ≡ true) →
    Each (λ e. delta_before e d ≡ true) (take n (deltas_of ts))
unfolding plan_definitions
all_before d [] zero x l h = tt
all_before d [] (suc n) x l h = tt
all_before d (t ∷ ts) zero x l h = tt
all_before d (t ∷ ts) (suc n) x l h = (h 0 (omega arith), all_before d ts n x (omega (arith, l)) (λ k m. h (suc k) (omega (arith, m))))

first_behind : (d : Delta) (ts : List Term) (n : ℕ) (x : Term) → n ≤ length ts → (n < length ts → delta_before (slice_index_or ts n x).delta d ≡ false) →
    BeginsBehind d (drop n (deltas_of ts))
unfolding definitions plan_definitions
first_behind d [] zero x l h = tt
first_behind d [] (suc n) x l h = tt
first_behind d (t ∷ ts) zero x l h = h (omega arith)
first_behind d (t ∷ ts) (suc n) x l h = first_behind d ts n x (omega (arith, l)) (λ m. h (omega (arith, m)))

pub place_found : (d : Delta) (ts : List Term) (n : ℕ) (x : Term) → n ≤ length ts → ((k : ℕ) → k < n → delta_before (slice_index_or ts k x).delta d ≡ true) →
    (n < length ts → delta_before (slice_index_or ts n x).delta d ≡ false) → IsPlace d (deltas_of ts) n
place_found d ts n x l h k =
    record { within = omega (arith, l, length_deltas ts); before = all_before d ts n x l h; behind = first_behind d ts n x l k }

-- ---- the factor
passed : (d : Delta) (t : Term) (ts : List Term) (z : ℤ) → delta_before t.delta d ≡ true → factor_at d ts ≡ z → factor_at d (t ∷ ts) ≡ z
unfolding definitions
passed d t ts z b h = ap (λ v. cond v t.factor (pos 0) +ℤ factor_at d ts) (before_is_other d t.delta b) ∙ zero_plus (factor_at d ts) ∙ h

swapped : (d e : Delta) → same_delta d e ≡ false → same_delta e d ≡ false
unfolding plan_definitions
swapped d e h = grind (arith, nat_tests)

-- none behind one that doesn't stand before the delta has it
none_more : (d : Delta) (t : Term) (ts : List Term) → AreInOrder (deltas_of (t ∷ ts)) → delta_before t.delta d ≡ false → factor_at d ts ≡ pos 0
unfolding plan_definitions
none_more d t ts o b = above_none d ts (go (same_delta d t.delta) refl)
  where
    go : (v : Bool) → same_delta d t.delta ≡ v → After d (deltas_of ts)
    go true h = subst (λ e. After e (deltas_of ts)) (sym (same_delta_is d t.delta h)) o.0
    go false h = after_before d t.delta (deltas_of ts) (before_total t.delta d (swapped d t.delta h) b) o.0

at_place : (d : Delta) (ts : List Term) (n : ℕ) (x : Term) → AreInOrder (deltas_of ts) → n < length ts → Each (λ e. delta_before e d ≡ true) (take n (deltas_of ts)) →
    BeginsBehind d (drop n (deltas_of ts)) → factor_at d ts ≡ share d (slice_index_or ts n x).delta (slice_index_or ts n x).factor
unfolding definitions plan_definitions
at_place d [] n x o l h b = absurd (omega (arith, l))
at_place d (t ∷ ts) zero x o l h b = ap (λ z. share d t.delta t.factor +ℤ z) (none_more d t ts o b) ∙ plus_zero (share d t.delta t.factor)
at_place d (t ∷ ts) (suc n) x o l h b = passed d t ts _ h.0 (at_place d ts n x o.1 (omega (arith, l)) h.1 b)

past_all : (d : Delta) (ts : List Term) (n : ℕ) → length ts ≤ n → Each (λ e. delta_before e d ≡ true) (take n (deltas_of ts)) → factor_at d ts ≡ pos 0
unfolding definitions plan_definitions
past_all d [] n l h = refl
past_all d (t ∷ ts) zero l h = absurd (omega (arith, l))
past_all d (t ∷ ts) (suc n) l h = passed d t ts (pos 0) h.0 (past_all d ts n (omega (arith, l)) h.1)

pub factor_found : (d : Delta) (ts : List Term) (n : ℕ) (x : Term) → AreInOrder (deltas_of ts) → n < length ts → IsPlace d (deltas_of ts) n →
    share d (slice_index_or ts n x).delta (slice_index_or ts n x).factor ≡ factor_at d ts
factor_found d ts n x o l p = sym (at_place d ts n x o l p.before p.behind)

pub no_factor_found : (d : Delta) (ts : List Term) (n : ℕ) → length ts ≤ n → IsPlace d (deltas_of ts) n → pos 0 ≡ factor_at d ts
no_factor_found d ts n l p = sym (past_all d ts n l p.before)
