-- What is left of a slack after one visit more.
use Rattle.homeo_meaning.specs.Key.{definitions as meaning_definitions}
use Rattle.homeo_plan.specs.Key.{definitions as plan_definitions}
use Rattle.homeo_forecast.specs.Key.{definitions}
use Rattle.std.proofs.Common.{◌≡◌, ℕ, zero, suc, ◌<◌, ◌^◌, Bool, true, false, cond, List, [], ◌∷◌, ◌++◌, length, ℤ, pos, int_lt, int_le, ◌+ℤ◌, ◌-ℤ◌, ◌≤ℤ◌, ◌<ℤ◌, Some, None, replicate, refl, sym, ap, ap₂, subst, ◌∙◌, arith, slice_index_or, FitsSigned}
use Rattle.std.proofs.Math.ListN.{set}
use Rattle.std.specs.Int.{int_max, w128}
use Rattle.std.specs.Int.RustNames.{unsigned_abs}
use Rattle.std.proofs.lemmas.Int.{ints, fits_signed_from_abs}
use Rattle.homeo_plan.specs.Template.{Clause}
use Rattle.homeo_plan.specs.declared.forms.Term.{Term}
use Rattle.homeo_plan.specs.Config.{total}
use Rattle.homeo_plan.specs.Treaty.{site_sum}
use Rattle.homeo_forecast.specs.Peaks.{Spent, peak, peaks_from, peaks, peak_bounds}
use Rattle.homeo_forecast.specs.Visits.{Visit}
use Rattle.homeo_forecast.specs.declared.rooms.Room.{Room}
use Rattle.homeo_forecast.specs.inner.Rooms.{HasRoom, IsOpen}
use Rattle.homeo_forecast.specs.inner.Stops.{clause_stop}
use Rattle.homeo_forecast.proofs.Peaks.{max_left, peaks_count, peak_positive}
use Rattle.homeo_forecast.proofs.Raised.{peaks_push, peak_own, peak_at, total_set}

at_most : (a b : ℤ) → a ≤ℤ b → int_le a b ≡ true
at_most a b h = grind (arith, ints)

not_at_most : (a b : ℤ) → (a ≤ℤ b → ⊥) → int_le a b ≡ false
not_at_most a b h = go (int_le a b) refl
  where
    go : (v : Bool) → int_le a b ≡ v → v ≡ false
    go true e = absurd (h (omega (arith, ints, e)))
    go false e = refl

max_high : (a b : ℤ) → b ≤ℤ a → int_max a b ≡ a
max_high a b h = go (int_lt b a) refl
  where
    go : (v : Bool) → int_lt b a ≡ v → cond v a b ≡ a
    go true e = refl
    go false e = omega (arith, ints, e)

max_low : (a b : ℤ) → a ≤ℤ b → int_max a b ≡ b
max_low a b h = go (int_lt b a) refl
  where
    go : (v : Bool) → int_lt b a ≡ v → cond v a b ≡ b
    go true e = omega (arith, ints, e)
    go false e = refl

set_same : (ns : List ℤ) (j : ℕ) (d : ℤ) → set ns j (slice_index_or ns j d) ≡ ns
set_same [] zero d = refl
set_same [] (suc j) d = refl
set_same (n ∷ ns) zero d = refl
set_same (n ∷ ns) (suc j) d = ap (λ l. n ∷ l) (set_same ns j d)

module _ (k : ℕ) (vs : List Visit) (c : Clause) (v : Visit) (site : ℕ) (sum : ℤ) (r : Room) (room : HasRoom k vs c r)
    (at : v.site ≡ site) (lt : site < k) (is : sum ≡ site_sum site c.terms v.deltas) where
  old : ℤ
  old = slice_index_or r.peaks.items site (pos 0)

  pub old_is : (d : ℤ) → slice_index_or r.peaks.items site d ≡ peak c.terms site vs
  unfolding plan_definitions meaning_definitions
  old_is d = ap (λ ns. slice_index_or ns site d) room.peaks_are ∙ peak_at c.terms vs 0 k site site d (omega arith) lt

  pub raised : peaks k (vs ++ v ∷ []) c ≡ set r.peaks.items site (int_max sum (peak c.terms site vs))
  unfolding plan_definitions meaning_definitions
  raised =
      peaks_push c.terms vs v 0 k site (omega arith) lt
      ∙ ap₂ (λ ns n. set ns site n) (sym room.peaks_are)
      (ap₂ int_max (ap (λ j. site_sum j c.terms v.deltas) at ∙ sym is) (ap (λ j. peak c.terms j vs) at))

  pub raised_total : total (peaks k (vs ++ v ∷ []) c) ≡ total (peaks k vs c) +ℤ (int_max sum (peak c.terms site vs) -ℤ peak c.terms site vs)
  unfolding plan_definitions meaning_definitions
  raised_total =
      ap total raised ∙ total_set r.peaks.items site (int_max sum (peak c.terms site vs)) (pos 0) there
      ∙ ap₂ (λ a b. total a +ℤ (int_max sum (peak c.terms site vs) -ℤ b)) room.peaks_are (old_is (pos 0))
    where
      there : site < length r.peaks.items
      there = subst (λ n. site < n) (sym (ap length room.peaks_are ∙ peaks_count c.terms vs 0 k)) lt

  -- a sum that isn't higher changes nothing
  pub lower : (d : ℤ) → sum ≤ℤ slice_index_or r.peaks.items site d → HasRoom k (vs ++ v ∷ []) c r
  unfolding plan_definitions meaning_definitions
  lower d h =
      let p = old_is d in
      let m : int_max sum (peak c.terms site vs) ≡ peak c.terms site vs = max_low sum (peak c.terms site vs) (subst (λ z. sum ≤ℤ z) p h) in
      let same : peaks k (vs ++ v ∷ []) c ≡ r.peaks.items = raised ∙ ap (λ n. set r.peaks.items site n) (m ∙ sym (old_is d)) ∙ set_same r.peaks.items site d in
      let t = raised_total in
      let e = room.room_is in
      record { slack_is = room.slack_is; peaks_are = sym same; room_is = omega (arith, ints); small = room.small }

  pub lower_fits : (d : ℤ) → sum ≤ℤ slice_index_or r.peaks.items site d → pos 0 ≤ℤ r.room → total (peaks k (vs ++ v ∷ []) c) ≤ℤ c.slack
  lower_fits d h low = let e = (lower d h).room_is in omega (arith, ints)

  -- a higher one takes the difference from what the slack leaves
  higher_total : (d : ℤ) → slice_index_or r.peaks.items site d <ℤ sum → total (peaks k (vs ++ v ∷ []) c) ≡ (c.slack -ℤ r.room) +ℤ (sum -ℤ slice_index_or r.peaks.items site d)
  higher_total d h =
      let p = old_is d in
      let below : slice_index_or r.peaks.items site d ≤ℤ sum = omega (arith, ints) in
      let m = max_high sum (peak c.terms site vs) (subst (λ z. z ≤ℤ sum) p below) in
      let t = raised_total in
      let e = room.room_is in
      omega (arith, ints)

  pub higher : (d : ℤ) (q : Room) → slice_index_or r.peaks.items site d <ℤ sum → q.slack ≡ r.slack → q.peaks.items ≡ set r.peaks.items site sum →
      q.room ≡ r.room -ℤ (sum -ℤ slice_index_or r.peaks.items site d) → HasRoom k (vs ++ v ∷ []) c q
  higher d q h slack are left =
      let p = old_is d in
      let below : slice_index_or r.peaks.items site d ≤ℤ sum = omega (arith, ints) in
      let m : int_max sum (peak c.terms site vs) ≡ sum = max_high sum (peak c.terms site vs) (subst (λ z. z ≤ℤ sum) p below) in
      let t = higher_total d h in
      record {
        slack_is = slack ∙ room.slack_is;
        peaks_are = are ∙ ap (λ n. set r.peaks.items site n) (sym m) ∙ sym raised;
        room_is = omega (arith, ints);
        small = room.small;
      }

  pub higher_fits : (d : ℤ) → slice_index_or r.peaks.items site d <ℤ sum → (sum -ℤ slice_index_or r.peaks.items site d) ≤ℤ r.room → total (peaks k (vs ++ v ∷ []) c) ≤ℤ c.slack
  higher_fits d h low = let t = higher_total d h in omega (arith, ints)

  pub higher_over : (d : ℤ) → slice_index_or r.peaks.items site d <ℤ sum → r.room <ℤ (sum -ℤ slice_index_or r.peaks.items site d) → total (peaks k (vs ++ v ∷ []) c) ≤ℤ c.slack → ⊥
  higher_over d h high fits = let t = higher_total d h in omega (arith, ints)

  -- where they don't fit, the sum is the site's new peak
  pub over_peaks : (total (peaks k (vs ++ v ∷ []) c) ≤ℤ c.slack → ⊥) → pos 0 ≤ℤ r.room → peaks k (vs ++ v ∷ []) c ≡ set r.peaks.items site sum
  over_peaks over low = go (int_lt (peak c.terms site vs) sum) refl
    where
      go : (b : Bool) → int_lt (peak c.terms site vs) sum ≡ b → peaks k (vs ++ v ∷ []) c ≡ set r.peaks.items site sum
      go true e = raised ∙ ap (λ n. set r.peaks.items site n) (ap (λ b. cond b sum (peak c.terms site vs)) e)
      go false e =
          let same = old_is (pos 0) in
          let below : sum ≤ℤ peak c.terms site vs = omega (arith, ints, e) in
          absurd (over (lower_fits (pos 0) (subst (λ z. sum ≤ℤ z) (sym same) below) low))

  pub none_stops : total (peaks k (vs ++ v ∷ []) c) ≤ℤ c.slack → (n : ℕ) → None ≡ clause_stop k (vs ++ v ∷ []) n c
  unfolding definitions
  none_stops fits n = sym (ap (λ b. cond b None (Some (Spent n (peaks k (vs ++ v ∷ []) c) c.slack))) (at_most (total (peaks k (vs ++ v ∷ []) c)) c.slack fits))

  pub spent_stops :
      (total (peaks k (vs ++ v ∷ []) c) ≤ℤ c.slack → ⊥) → pos 0 ≤ℤ r.room → (n : ℕ) (ps : List ℤ) (slack : ℤ) →
      ps ≡ set r.peaks.items site sum → slack ≡ r.slack → Some (Spent n ps slack) ≡ clause_stop k (vs ++ v ∷ []) n c
  unfolding definitions
  spent_stops over low n ps slack are is_slack =
      ap₂ (λ l z. Some (Spent n l z)) (are ∙ sym (over_peaks over low)) (is_slack ∙ room.slack_is)
      ∙ sym (ap (λ b. cond b None (Some (Spent n (peaks k (vs ++ v ∷ []) c) c.slack))) (not_at_most (total (peaks k (vs ++ v ∷ []) c)) c.slack over))

-- ---- no visit
zero_peaks : (ts : List Term) (i k : ℕ) → replicate k (pos 0) ≡ peaks_from ts [] i k
unfolding plan_definitions
zero_peaks ts i zero = refl
zero_peaks ts i (suc k) = ap (λ l. pos 0 ∷ l) (zero_peaks ts (suc i) k)

zero_total : (k : ℕ) → total (replicate k (pos 0)) ≡ pos 0
unfolding plan_definitions
zero_total zero = refl
zero_total (suc k) = let rest = zero_total k in omega (arith, ints)

pub new_room : (k : ℕ) (c : Clause) (r : Room) → r.slack ≡ c.slack → r.peaks.items ≡ replicate k (pos 0) → r.room ≡ c.slack →
    c.slack <ℤ pos (2 ^ 127) → HasRoom k [] c r
unfolding plan_definitions
new_room k c r slack are is_slack small =
    let same = zero_peaks c.terms 0 k in
    let none = ap total (sym same) ∙ zero_total k in
    record { slack_is = slack; peaks_are = are ∙ same; room_is = omega (arith, ints, none, is_slack); small = small }

-- ---- bounds
pub bounds_are :
    (k : ℕ) (vs : List Visit) (c : Clause) (r : Room) (bounds : List ℤ) (first d : ℤ) → HasRoom k vs c r →
    bounds ≡ set r.peaks.items 0 first → first ≡ r.room +ℤ slice_index_or r.peaks.items 0 d → 0 < length r.peaks.items → bounds ≡ peak_bounds k vs c
unfolding plan_definitions
bounds_are zero vs c r bounds first d room are is some =
    let none : length r.peaks.items ≡ 0 = ap length room.peaks_are in absurd (omega (arith, none, some))
bounds_are (suc k) vs c r bounds first d room are is some =
    let p = ap (λ l. slice_index_or l 0 d) room.peaks_are in
    let left = room.room_is in
    are ∙ ap (λ l. set l 0 first) room.peaks_are
    ∙ ap (λ z. z ∷ peaks_from c.terms vs 1 k) (omega (arith, ints, is, p, left))

-- ---- a visit that was taken
pub low_again :
    (k : ℕ) (vs : List Visit) (c : Clause) (v : Visit) (site : ℕ) (sum : ℤ) (r : Room) → HasRoom k (vs ++ v ∷ []) c r → v.site ≡ site → site < k →
    sum ≡ site_sum site c.terms v.deltas → (d : ℤ) → sum ≤ℤ slice_index_or r.peaks.items site d
unfolding plan_definitions
low_again k vs c v site sum r room at lt is d =
    let there : slice_index_or r.peaks.items site d ≡ peak c.terms site (vs ++ v ∷ []) =
    ap (λ ns. slice_index_or ns site d) room.peaks_are ∙ peak_at c.terms (vs ++ v ∷ []) 0 k site site d (omega arith) lt in
    let own = peak_own c.terms site vs v at in
    let sums : sum ≡ site_sum v.site c.terms v.deltas = is ∙ sym (ap (λ j. site_sum j c.terms v.deltas) at) in
    let most = max_left (site_sum v.site c.terms v.deltas) (peak c.terms v.site vs) in
    subst (λ z. sum ≤ℤ z) (sym (there ∙ own)) (subst (λ z. z ≤ℤ int_max (site_sum v.site c.terms v.deltas) (peak c.terms v.site vs)) (sym sums) most)

-- ---- what is asked of a room where the peaks fit
pub is_open : (k : ℕ) (vs : List Visit) (c : Clause) (site : ℕ) (r : Room) → HasRoom k vs c r → total (peaks k vs c) ≤ℤ c.slack → site < k → IsOpen site r
unfolding plan_definitions
is_open k vs c site r room fit lt =
    let left = room.room_is in
    record {
      there = subst (λ n. site < n) (sym (ap length room.peaks_are ∙ peaks_count c.terms vs 0 k)) lt;
      low =
          subst (λ z. pos 0 ≤ℤ z)
          (sym (ap (λ ns. slice_index_or ns site (pos 0)) room.peaks_are ∙ peak_at c.terms vs 0 k site site (pos 0) (omega arith) lt))
          (peak_positive c.terms site vs);
      room = omega (arith, ints, left, fit);
    }

-- the bound of site 0 fits i128
pub bound_fits :
    (k : ℕ) (vs : List Visit) (c : Clause) (r : Room) → HasRoom k vs c r → total (peaks k vs c) ≤ℤ c.slack → 0 < k →
    (0 < length r.peaks.items) × FitsSigned w128 (r.room +ℤ slice_index_or r.peaks.items 0 (pos 0))
unfolding plan_definitions
bound_fits zero vs c r room fit some = absurd (omega arith)
bound_fits (suc k) vs c r room fit some =
    let ready = is_open (suc k) vs c 0 r room fit some in
    let first : slice_index_or r.peaks.items 0 (pos 0) ≡ peak c.terms 0 vs = ap (λ ns. slice_index_or ns 0 (pos 0)) room.peaks_are in
    let others = total_positive c.terms vs 1 k in
    let left = room.room_is in
    let low = ready.low in
    let z = ready.room in
    let s = room.small in
    (ready.there, fits_between (r.room +ℤ slice_index_or r.peaks.items 0 (pos 0)) (omega (arith, ints, low, z)) (omega (arith, ints, first, others, left, s)))
  where
    total_positive : (ts : List Term) (us : List Visit) (i n : ℕ) → pos 0 ≤ℤ total (peaks_from ts us i n)
    total_positive ts us i zero = omega (arith, ints)
    total_positive ts us i (suc n) =
        let one = peak_positive ts i us in let rest = total_positive ts us (suc i) n in omega (arith, ints, one, rest)

    fits_between : (n : ℤ) → pos 0 ≤ℤ n → n <ℤ pos (2 ^ 127) → FitsSigned w128 n
    fits_between n low high = fits_signed_from_abs w128 n (size n low high)
      where
        size : (m : ℤ) → pos 0 ≤ℤ m → m <ℤ pos (2 ^ 127) → unsigned_abs m < 2 ^ 127
        size m low high = omega (arith, ints, low, high)
