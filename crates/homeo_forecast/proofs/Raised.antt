-- The peaks of a clause after one visit more.
use Rattle.homeo_meaning.specs.Key.{definitions as meaning_definitions}
use Rattle.homeo_plan.specs.Key.{definitions}
use Rattle.std.proofs.Common.{◌≡◌, ℕ, zero, suc, ◌+◌, ◌<◌, ◌==◌, Bool, true, false, cond, List, [], ◌∷◌, ◌++◌, length, ℤ, pos, int_lt, ◌+ℤ◌, ◌-ℤ◌, ◌≤ℤ◌, refl, sym, ap, ap₂, ◌∙◌, arith, slice_index_or}
use Rattle.std.proofs.Math.ListN.{set}
use Rattle.std.specs.Int.{int_max}
use Rattle.std.proofs.lemmas.Int.{ints}
use Rattle.std.proofs.lemmas.Bool.Decides.{nat_tests}
use Rattle.homeo_lemmas.proofs.Integers.{at_most_both}
use Rattle.homeo_plan.specs.Joined.{Deltas}
use Rattle.homeo_plan.specs.declared.forms.Term.{Term}
use Rattle.homeo_plan.specs.Template.{Clause}
use Rattle.homeo_plan.specs.Config.{total}
use Rattle.homeo_plan.specs.Local.{no_deltas}
use Rattle.homeo_plan.specs.Treaty.{site_sum}
use Rattle.homeo_plan.proofs.OwnWithin.{site_sum_zero}
use Rattle.homeo_forecast.specs.Peaks.{peak, peaks_from, peaks}
use Rattle.homeo_forecast.specs.Visits.{Visit, after, after_all}
use Rattle.homeo_forecast.proofs.Peaks.{max_below, max_left, max_right, peak_positive}

pub antisym : (a b : ℤ) → a ≤ℤ b → b ≤ℤ a → a ≡ b
antisym a b h k = omega (arith, ints)

max_swap : (a b c : ℤ) → int_max a (int_max b c) ≡ int_max b (int_max a c)
max_swap a b c =
    let left : (x y z : ℤ) → int_max x (int_max y z) ≤ℤ int_max y (int_max x z) = λ x y z.
    max_below x (int_max y z) (int_max y (int_max x z)) (at_most_both x (int_max x z) (int_max y (int_max x z)) (max_left x z) (max_right y (int_max x z)))
    (max_below y z (int_max y (int_max x z)) (max_left y (int_max x z)) (at_most_both z (int_max x z) (int_max y (int_max x z)) (max_right x z) (max_right y (int_max x z)))) in
    antisym (int_max a (int_max b c)) (int_max b (int_max a c)) (left a b c) (left b a c)

-- ---- one visit more
pub peak_push :
    (ts : List Term) (i : ℕ) (vs : List Visit) (v : Visit) →
    peak ts i (vs ++ v ∷ []) ≡ cond (v.site == i) (int_max (site_sum i ts v.deltas) (peak ts i vs)) (peak ts i vs)
unfolding definitions meaning_definitions
peak_push ts i [] v = refl
peak_push ts i (u ∷ vs) v =
    ap (λ p. cond (u.site == i) (int_max (site_sum i ts u.deltas) p) p) (peak_push ts i vs v) ∙ go (u.site == i) (v.site == i)
  where
    a : ℤ
    a = site_sum i ts u.deltas

    b : ℤ
    b = site_sum i ts v.deltas

    p : ℤ
    p = peak ts i vs

    go :
        (x y : Bool) → cond x (int_max a (cond y (int_max b p) p)) (cond y (int_max b p) p) ≡
        cond y (int_max b (cond x (int_max a p) p)) (cond x (int_max a p) p)
    go true true = max_swap a b p
    go true false = refl
    go false true = refl
    go false false = refl

pub peak_other : (ts : List Term) (i : ℕ) (vs : List Visit) (v : Visit) → (v.site ≡ i → ⊥) → peak ts i (vs ++ v ∷ []) ≡ peak ts i vs
peak_other ts i vs v apart =
    let no_site : (v.site == i) ≡ false = grind (arith, nat_tests) in
    peak_push ts i vs v ∙ ap (λ x. cond x (int_max (site_sum i ts v.deltas) (peak ts i vs)) (peak ts i vs)) no_site

pub peak_own : (ts : List Term) (i : ℕ) (vs : List Visit) (v : Visit) → v.site ≡ i → peak ts i (vs ++ v ∷ []) ≡ int_max (site_sum v.site ts v.deltas) (peak ts v.site vs)
peak_own ts i vs v same =
    let at : (v.site == i) ≡ true = grind (arith, nat_tests) in
    peak_push ts i vs v ∙ ap (λ x. cond x (int_max (site_sum i ts v.deltas) (peak ts i vs)) (peak ts i vs)) at
    ∙ ap (λ j. int_max (site_sum j ts v.deltas) (peak ts j vs)) (sym same)

peaks_after : (ts : List Term) (vs : List Visit) (v : Visit) (i k : ℕ) → v.site < i → peaks_from ts (vs ++ v ∷ []) i k ≡ peaks_from ts vs i k
unfolding definitions meaning_definitions
peaks_after ts vs v i zero lt = refl
peaks_after ts vs v i (suc k) lt =
    ap₂ (λ n ns. n ∷ ns) (peak_other ts i vs v (λ e. omega arith)) (peaks_after ts vs v (suc i) k (omega arith))

-- the peaks of other sites stay, and that of the visit's site rises to the sum where this is higher
pub peaks_push :
    (ts : List Term) (vs : List Visit) (v : Visit) (i k j : ℕ) → v.site ≡ i + j → j < k →
    peaks_from ts (vs ++ v ∷ []) i k ≡ set (peaks_from ts vs i k) j (int_max (site_sum v.site ts v.deltas) (peak ts v.site vs))
unfolding definitions meaning_definitions
peaks_push ts vs v i zero j e lt = absurd (omega arith)
peaks_push ts vs v i (suc k) zero e lt =
    ap₂ (λ n ns. n ∷ ns) (peak_own ts i vs v (omega arith)) (peaks_after ts vs v (suc i) k (omega arith))
peaks_push ts vs v i (suc k) (suc j) e lt =
    ap₂ (λ n ns. n ∷ ns) (peak_other ts i vs v (λ same. omega arith)) (peaks_push ts vs v (suc i) k j (omega arith) (omega arith))

pub peak_at : (ts : List Term) (vs : List Visit) (i k j m : ℕ) (d : ℤ) → m ≡ i + j → j < k → slice_index_or (peaks_from ts vs i k) j d ≡ peak ts m vs
unfolding definitions meaning_definitions
peak_at ts vs i zero j m d e lt = absurd (omega arith)
peak_at ts vs i (suc k) zero m d e lt = let same : i ≡ m = omega arith in ap (λ n. peak ts n vs) same
peak_at ts vs i (suc k) (suc j) m d e lt = peak_at ts vs (suc i) k j m d (omega arith) (omega arith)

pub total_set : (ns : List ℤ) (j : ℕ) (n d : ℤ) → j < length ns → total (set ns j n) ≡ total ns +ℤ (n -ℤ slice_index_or ns j d)
unfolding definitions meaning_definitions
total_set [] j n d lt = absurd (omega arith)
total_set (m ∷ ns) zero n d lt = omega (arith, ints)
total_set (m ∷ ns) (suc j) n d lt = let rest = total_set ns j n d (omega arith) in omega (arith, ints)

set_same : (ns : List ℤ) (j : ℕ) (d n : ℤ) → slice_index_or ns j d ≡ n → set ns j n ≡ ns
set_same [] zero d n e = refl
set_same [] (suc j) d n e = refl
set_same (m ∷ ns) zero d n e = ap (λ z. z ∷ ns) (sym e)
set_same (m ∷ ns) (suc j) d n e = ap (λ l. m ∷ l) (set_same ns j d n e)

-- a sum that isn't above its site's peak changes no peak
pub peaks_idle :
    (k : ℕ) (vs : List Visit) (v : Visit) (c : Clause) → v.site < k → site_sum v.site c.terms v.deltas ≤ℤ peak c.terms v.site vs →
    peaks k (vs ++ v ∷ []) c ≡ peaks k vs c
unfolding definitions meaning_definitions
peaks_idle k vs v c lt low =
    peaks_push c.terms vs v 0 k v.site (omega arith) lt
    ∙ ap (λ n. set (peaks_from c.terms vs 0 k) v.site n) (lower (site_sum v.site c.terms v.deltas) (peak c.terms v.site vs) low)
    ∙ set_same (peaks_from c.terms vs 0 k) v.site (pos 0) (peak c.terms v.site vs) (peak_at c.terms vs 0 k v.site v.site (pos 0) (omega arith) lt)
  where
    lower : (a b : ℤ) → a ≤ℤ b → int_max a b ≡ b
    lower a b h = go (int_lt b a) refl
      where
        go : (u : Bool) → int_lt b a ≡ u → cond u a b ≡ b
        go true e = omega (arith, ints, e)
        go false e = refl

-- ---- the last deltas of a site
last_below :
    (ts : List Term) (i : ℕ) (d : ℕ → Deltas) (vs : List Visit) (n : ℤ) → site_sum i ts (d i) ≤ℤ n → peak ts i vs ≤ℤ n →
    site_sum i ts (after_all d vs i) ≤ℤ n
unfolding definitions meaning_definitions
last_below ts i d [] n h low = h
last_below ts i d (v ∷ vs) n h low = last_below ts i (after d v) vs n (new (v.site == i) low) (rest (v.site == i) low)
  where
    new : (b : Bool) → cond b (int_max (site_sum i ts v.deltas) (peak ts i vs)) (peak ts i vs) ≤ℤ n → site_sum i ts (cond b v.deltas (d i)) ≤ℤ n
    new true g = at_most_both (site_sum i ts v.deltas) (int_max (site_sum i ts v.deltas) (peak ts i vs)) n (max_left (site_sum i ts v.deltas) (peak ts i vs)) g
    new false g = h

    rest : (b : Bool) → cond b (int_max (site_sum i ts v.deltas) (peak ts i vs)) (peak ts i vs) ≤ℤ n → peak ts i vs ≤ℤ n
    rest true g = at_most_both (peak ts i vs) (int_max (site_sum i ts v.deltas) (peak ts i vs)) n (max_right (site_sum i ts v.deltas) (peak ts i vs)) g
    rest false g = g

-- the sum over what a site has after visits isn't above its peak
pub last_low : (ts : List Term) (i : ℕ) (vs : List Visit) → site_sum i ts (after_all (λ j. no_deltas) vs i) ≤ℤ peak ts i vs
last_low ts i vs =
    let zero = site_sum_zero i ts in
    let high = peak_positive ts i vs in
    last_below ts i (λ j. no_deltas) vs (peak ts i vs) (omega (arith, ints, zero, high)) (omega (arith, ints))
