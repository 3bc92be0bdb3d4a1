-- A fitting configuration serves visits exactly where the peaks fit and all freezes hold.
use Rattle.homeo_meaning.specs.Key.{definitions as meaning_definitions}
use Rattle.homeo_plan.specs.Key.{definitions}
use Rattle.std.proofs.Common.{◌≡◌, ℕ, zero, suc, ◌+◌, ◌<◌, ◌==◌, Bool, true, false, cond, not, ◌&&◌, List, [], ◌∷◌, ◌++◌, length, ℤ, pos, int_le, int_lt, ◌≤ℤ◌, Option, Some, None, refl, sym, ap, subst, arith}
use Rattle.std.specs.Int.{int_max}
use Rattle.std.specs.Ordering.{int_eq}
use Rattle.std.proofs.lemmas.Int.{ints}
use Rattle.std.proofs.lemmas.Bool.Decides.{nat_tests}
use Rattle.homeo_lemmas.proofs.Integers.{int_is, at_most, not_at_most, int_is_not}
use Rattle.homeo_lemmas.proofs.Options.{some_not_none}
use Rattle.homeo_plan.specs.Each.{Each}
use Rattle.homeo_plan.specs.Joined.{Deltas}
use Rattle.homeo_plan.specs.declared.forms.Delta.{Delta}
use Rattle.homeo_plan.specs.declared.forms.Term.{Term}
use Rattle.homeo_plan.specs.Template.{Clause, Template}
use Rattle.homeo_plan.specs.Config.{Config, total, FitsOne, Fits}
use Rattle.homeo_plan.specs.Treaty.{site_sum, bound_at, KeepsClauses, KeepsFreezes, Treaty}
use Rattle.homeo_plan.proofs.Atoms.{each_append, append_each}
use Rattle.homeo_plan.proofs.Covering.{each_map}
use Rattle.homeo_plan.proofs.OwnWithin.{bound_not_negative}
use Rattle.homeo_forecast.specs.Forecast.{Serves, IsServed}
use Rattle.homeo_forecast.specs.Peaks.{peak, peaks_from, peaks, peak_bounds, peak_config, PeaksFit, KeepFreezes, Stop, Spent, Frozen, frozen_from, stop_from}
use Rattle.homeo_forecast.specs.Visits.{Visit}
use Rattle.homeo_forecast.specs.Laws.{AreSited, ServedExactly, PeaksServe, ServedOn, ServedFirst}

-- ---- peaks
pub max_below : (a b c : ℤ) → a ≤ℤ c → b ≤ℤ c → int_max a b ≤ℤ c
max_below a b c h k = elim (int_lt b a) as (λ v. cond v a b ≤ℤ c) [ true ↦ h | false ↦ k ]

pub max_left : (a b : ℤ) → a ≤ℤ int_max a b
max_left a b = go (int_lt b a) refl
  where
    go : (v : Bool) → int_lt b a ≡ v → a ≤ℤ cond v a b
    go true e = omega (arith, ints)
    go false e = omega (arith, ints, e)

pub max_right : (a b : ℤ) → b ≤ℤ int_max a b
max_right a b = go (int_lt b a) refl
  where
    go : (v : Bool) → int_lt b a ≡ v → b ≤ℤ cond v a b
    go true e = omega (arith, ints, e)
    go false e = omega (arith, ints)

-- a peak isn't negative
pub peak_positive : (ts : List Term) (i : ℕ) (vs : List Visit) → pos 0 ≤ℤ peak ts i vs
unfolding definitions meaning_definitions
peak_positive ts i [] = omega (arith, ints)
peak_positive ts i (v ∷ vs) = go (v.site == i) (peak_positive ts i vs)
  where
    go : (u : Bool) → pos 0 ≤ℤ peak ts i vs → pos 0 ≤ℤ cond u (int_max (site_sum i ts v.deltas) (peak ts i vs)) (peak ts i vs)
    go true h = let r = max_right (site_sum i ts v.deltas) (peak ts i vs) in omega (arith, ints)
    go false h = h

-- it is reached by none of the sums at its site
pub peak_reached : (ts : List Term) (i : ℕ) (vs : List Visit) → Each (λ v. v.site ≡ i → site_sum i ts v.deltas ≤ℤ peak ts i vs) vs
unfolding definitions meaning_definitions
peak_reached ts i [] = tt
peak_reached ts i (v ∷ vs) = go (v.site == i) refl (peak_reached ts i vs)
  where
    high : ℤ
    high = int_max (site_sum i ts v.deltas) (peak ts i vs)

    go :
        (u : Bool) → (v.site == i) ≡ u → Each (λ v. v.site ≡ i → site_sum i ts v.deltas ≤ℤ peak ts i vs) vs →
        (v.site ≡ i → site_sum i ts v.deltas ≤ℤ cond u high (peak ts i vs))
        × Each (λ (w : Visit). w.site ≡ i → site_sum i ts w.deltas ≤ℤ cond u high (peak ts i vs)) vs
    go true e h = (
      λ at. max_left (site_sum i ts v.deltas) (peak ts i vs),
      each_map (λ (w : Visit). w.site ≡ i → site_sum i ts w.deltas ≤ℤ peak ts i vs) (λ (w : Visit). w.site ≡ i → site_sum i ts w.deltas ≤ℤ high)
          (λ w f at. let r = max_right (site_sum i ts v.deltas) (peak ts i vs) in let s = f at in omega (arith, ints)) vs h,
    )
    go false e h = (λ at. absurd (grind (arith, nat_tests)), h)

-- and it is the least such number
pub peak_least :
    (ts : List Term) (i : ℕ) (vs : List Visit) (n : ℤ) → pos 0 ≤ℤ n →
    Each (λ v. v.site ≡ i → site_sum i ts v.deltas ≤ℤ n) vs → peak ts i vs ≤ℤ n
unfolding definitions meaning_definitions
peak_least ts i [] n low h = low
peak_least ts i (v ∷ vs) n low h = go (v.site == i) refl (peak_least ts i vs n low h.1)
  where
    go : (u : Bool) → (v.site == i) ≡ u → peak ts i vs ≤ℤ n → cond u (int_max (site_sum i ts v.deltas) (peak ts i vs)) (peak ts i vs) ≤ℤ n
    go true e r = max_below (site_sum i ts v.deltas) (peak ts i vs) n (h.0 (grind (arith, nat_tests))) r
    go false e r = r

-- ---- bounds
total_below :
    (ts : List Term) (vs : List Visit) (ns : List ℤ) (i : ℕ) → ((j m : ℕ) → m ≡ i + j → peak ts m vs ≤ℤ bound_at ns j) →
    total (peaks_from ts vs i (length ns)) ≤ℤ total ns
unfolding definitions meaning_definitions
total_below ts vs [] i h = omega (arith, ints)
total_below ts vs (n ∷ ns) i h =
    let first : peak ts i vs ≤ℤ n = h 0 i (omega arith) in
    let rest : total (peaks_from ts vs (suc i) (length ns)) ≤ℤ total ns = total_below ts vs ns (suc i) (λ j m e. h (suc j) m (omega arith)) in
    omega (arith, ints)

-- ---- a fitting configuration that serves leaves room for the peaks
clause_fits :
    (k : ℕ) (vs : List Visit) (c : Clause) (b : List ℤ) → FitsOne k c b →
    Each (λ v. site_sum v.site c.terms v.deltas ≤ℤ bound_at b v.site) vs → total (peaks k vs c) ≤ℤ c.slack
unfolding definitions meaning_definitions
clause_fits k vs c b fits keeps =
    let below = total_below c.terms vs b 0 (λ j m e. peak_least c.terms m vs (bound_at b j) (bound_not_negative b j fits.not_negative)
    (each_map (λ (v : Visit). site_sum v.site c.terms v.deltas ≤ℤ bound_at b v.site) (λ (v : Visit). v.site ≡ m → site_sum m c.terms v.deltas ≤ℤ bound_at b j)
    (λ v h at. let there : v.site ≡ j = omega arith in subst (λ n. site_sum n c.terms v.deltas ≤ℤ bound_at b j) at (subst (λ n. site_sum v.site c.terms v.deltas ≤ℤ bound_at b n) there h)) vs keeps)) in
    subst (λ n. total (peaks_from c.terms vs 0 n) ≤ℤ c.slack) fits.count (subst (λ n. total (peaks_from c.terms vs 0 (length b)) ≤ℤ n) fits.sums below)

pub served_fits :
    (k : ℕ) (vs : List Visit) (cs : List Clause) (bs : Config) → Fits k cs bs →
    Each (λ v. KeepsClauses v.site v.deltas cs bs) vs → PeaksFit k vs cs
unfolding definitions meaning_definitions
served_fits k vs [] bs fits keeps = tt
served_fits k vs (c ∷ cs) [] fits keeps = absurd fits
served_fits k vs (c ∷ cs) (b ∷ bs) fits keeps = (
  clause_fits k vs c b fits.0
      (each_map (λ (v : Visit). KeepsClauses v.site v.deltas (c ∷ cs) (b ∷ bs)) (λ (v : Visit). site_sum v.site c.terms v.deltas ≤ℤ bound_at b v.site) (λ v h. h.0) vs keeps),
  served_fits k vs cs bs fits.1
      (each_map (λ (v : Visit). KeepsClauses v.site v.deltas (c ∷ cs) (b ∷ bs)) (λ (v : Visit). KeepsClauses v.site v.deltas cs bs) (λ v h. h.1) vs keeps),
)

-- ---- the peaks, with the rest at site 0, serve
pub peaks_count : (ts : List Term) (vs : List Visit) (i k : ℕ) → length (peaks_from ts vs i k) ≡ k
unfolding definitions meaning_definitions
peaks_count ts vs i zero = refl
peaks_count ts vs i (suc k) = ap suc (peaks_count ts vs (suc i) k)

peaks_positive : (ts : List Term) (vs : List Visit) (i k : ℕ) → Each (λ n. pos 0 ≤ℤ n) (peaks_from ts vs i k)
unfolding definitions meaning_definitions
peaks_positive ts vs i zero = tt
peaks_positive ts vs i (suc k) = (peak_positive ts i vs, peaks_positive ts vs (suc i) k)

peak_there : (ts : List Term) (vs : List Visit) (i k j m : ℕ) → j < k → m ≡ i + j → bound_at (peaks_from ts vs i k) j ≡ peak ts m vs
unfolding definitions meaning_definitions
peak_there ts vs i zero j m lt e = absurd (omega arith)
peak_there ts vs i (suc k) zero m lt e = let same : i ≡ m = omega arith in ap (λ n. peak ts n vs) same
peak_there ts vs i (suc k) (suc j) m lt e = peak_there ts vs (suc i) k j m (omega arith) (omega arith)

peak_fits : (k : ℕ) (vs : List Visit) (c : Clause) → 0 < k → total (peaks k vs c) ≤ℤ c.slack → FitsOne k c (peak_bounds k vs c)
unfolding definitions meaning_definitions
peak_fits zero vs c some h = absurd (omega arith)
peak_fits (suc k) vs c some h =
    let low = peak_positive c.terms 0 vs in
    record {
      count = ap suc (peaks_count c.terms vs 1 k);
      not_negative = (omega (arith, ints), peaks_positive c.terms vs 1 k);
      sums = omega (arith, ints);
    }

peak_bound : (k : ℕ) (vs : List Visit) (c : Clause) (i : ℕ) → i < k → total (peaks k vs c) ≤ℤ c.slack → peak c.terms i vs ≤ℤ bound_at (peak_bounds k vs c) i
unfolding definitions meaning_definitions
peak_bound zero vs c i lt h = absurd (omega arith)
peak_bound (suc k) vs c zero lt h = omega (arith, ints)
peak_bound (suc k) vs c (suc i) lt h =
    let there = peak_there c.terms vs 1 k i (suc i) (omega arith) (omega arith) in
    subst (λ n. peak c.terms (suc i) vs ≤ℤ n) (sym there) (omega (arith, ints))

each_with : {X : Type 0} (P Q R : X → Type 0) → ((x : X) → P x → Q x → R x) → (xs : List X) → Each P xs → Each Q xs → Each R xs
unfolding definitions meaning_definitions
each_with P Q R f [] p q = tt
each_with P Q R f (x ∷ xs) p q = (f x p.0 q.0, each_with P Q R f xs p.1 q.1)

clause_served :
    (k : ℕ) (vs : List Visit) (c : Clause) (all : List Visit) → total (peaks k all c) ≤ℤ c.slack → Each (λ v. v.site < k) vs →
    Each (λ v. (i : ℕ) → v.site ≡ i → site_sum i c.terms v.deltas ≤ℤ peak c.terms i all) vs →
    Each (λ v. site_sum v.site c.terms v.deltas ≤ℤ bound_at (peak_bounds k all c) v.site) vs
unfolding definitions meaning_definitions
clause_served k vs c all fits sited reached =
    each_with (λ (v : Visit). v.site < k) (λ (v : Visit). (i : ℕ) → v.site ≡ i → site_sum i c.terms v.deltas ≤ℤ peak c.terms i all)
    (λ (v : Visit). site_sum v.site c.terms v.deltas ≤ℤ bound_at (peak_bounds k all c) v.site)
    (λ v lt h. let low = h v.site refl in let high = peak_bound k all c v.site lt fits in omega (arith, ints)) vs sited reached

each_for : {X I : Type 0} (P : I → X → Type 0) (xs : List X) → ((i : I) → Each (P i) xs) → Each (λ x. (i : I) → P i x) xs
unfolding definitions meaning_definitions
each_for P [] h = tt
each_for P (x ∷ xs) h = (λ i. (h i).0, each_for P xs (λ i. (h i).1))

pub fits_serve :
    (k : ℕ) (vs : List Visit) (cs : List Clause) → 0 < k → AreSited k vs → PeaksFit k vs cs →
    Fits k cs (peak_config k vs cs) × Each (λ v. KeepsClauses v.site v.deltas cs (peak_config k vs cs)) vs
unfolding definitions meaning_definitions
fits_serve k vs [] some sited fit = (tt, none vs)
  where
    none : (ws : List Visit) → Each (λ v. Unit {0}) ws
    none [] = tt
    none (w ∷ ws) = (tt, none ws)
fits_serve k vs (c ∷ cs) some sited fit =
    let more = fits_serve k vs cs some sited fit.1 in
    let here = clause_served k vs c vs fit.0 sited (each_for (λ i (v : Visit). v.site ≡ i → site_sum i c.terms v.deltas ≤ℤ peak c.terms i vs) vs (λ i. peak_reached c.terms i vs)) in (
      (peak_fits k vs c some fit.0, more.0),
      each_with (λ (v : Visit). site_sum v.site c.terms v.deltas ≤ℤ bound_at (peak_bounds k vs c) v.site)
          (λ (v : Visit). KeepsClauses v.site v.deltas cs (peak_config k vs cs))
          (λ (v : Visit). KeepsClauses v.site v.deltas (c ∷ cs) (peak_config k vs (c ∷ cs)))
          (λ v h r. (h, r)) vs here more.1,
    )

-- ---- the laws
pub served_peaks : (k : ℕ) (t : Template) (vs : List Visit) → IsServed k t vs → PeaksFit k vs t.clauses × KeepFreezes vs t.freezes
unfolding definitions meaning_definitions
served_peaks k t vs s = (
  served_fits k vs t.clauses s.config s.fits
      (each_map (λ (v : Visit). Treaty t s.config v.site v.deltas) (λ (v : Visit). KeepsClauses v.site v.deltas t.clauses s.config) (λ v h. h.clauses) vs s.serves),
  each_map (λ (v : Visit). Treaty t s.config v.site v.deltas) (λ (v : Visit). KeepsFreezes v.site v.deltas t.freezes) (λ v h. h.freezes) vs s.serves,
)

peaks_served :
    (k : ℕ) (t : Template) (vs : List Visit) → 0 < k → AreSited k vs → PeaksFit k vs t.clauses → KeepFreezes vs t.freezes →
    Fits k t.clauses (peak_config k vs t.clauses) × Serves t (peak_config k vs t.clauses) vs
unfolding definitions meaning_definitions
peaks_served k t vs some sited fit frozen =
    let both = fits_serve k vs t.clauses some sited fit in (
      both.0,
      each_with (λ (v : Visit). KeepsClauses v.site v.deltas t.clauses (peak_config k vs t.clauses)) (λ (v : Visit). KeepsFreezes v.site v.deltas t.freezes)
          (λ (v : Visit). Treaty t (peak_config k vs t.clauses) v.site v.deltas) (λ v h f. record { clauses = h; freezes = f }) vs both.1 frozen,
    )

pub served_exactly : ServedExactly
served_exactly k t vs some sited = (
  served_peaks k t vs,
  λ h. let made = peaks_served k t vs some sited h.0 h.1 in
      record { config = peak_config k vs t.clauses; fits = made.0; serves = made.1 },
)

pub peaks_serve : PeaksServe
peaks_serve k t vs some sited s = let h = served_peaks k t vs s in peaks_served k t vs some sited h.0 h.1

pub served_first : ServedFirst
unfolding definitions meaning_definitions
served_first k t vs more s = record {
  config = s.config;
  fits = s.fits;
  serves = (each_append (λ (v : Visit). Treaty t s.config v.site v.deltas) vs more s.serves).0;
}

-- ---- what stands in the way
record Tells (P : Type 0) (o : Option Stop) : Type 0 where
  none : o ≡ None → P
  some : (b : Stop) → o ≡ Some b → P → ⊥

frozen_tells : (n i : ℕ) (x : Deltas) (ds : List Delta) → Tells (KeepsFreezes i x ds) (frozen_from n i x ds)
unfolding definitions meaning_definitions
frozen_tells n i x [] = record { none = λ e. tt; some = λ f e h. some_not_none f (sym e) }
frozen_tells n i x (d ∷ ds) = go (frozen_tells (suc n) i x ds) (d.site == i) (int_eq (x d.object) (pos 0)) refl refl
  where
    one : Stop
    one = Frozen n d (x d.object)

    go :
        Tells (KeepsFreezes i x ds) (frozen_from (suc n) i x ds) → (u v : Bool) → (d.site == i) ≡ u →
        int_eq (x d.object) (pos 0) ≡ v →
        Tells ((d.site ≡ i → x d.object ≡ pos 0) × KeepsFreezes i x ds) (cond (u && not v) (Some one) (frozen_from (suc n) i x ds))
    go rest false v p q =
        record { none = λ e. (λ s. absurd (grind (arith, nat_tests)), rest.none e); some = λ f e h. rest.some f e h.1 }
    go rest true true p q =
        record { none = λ e. (λ s. int_is (x d.object) (pos 0) q, rest.none e); some = λ f e h. rest.some f e h.1 }
    go rest true false p q =
        record { none = λ e. absurd (some_not_none one e); some = λ f e h. int_is_not (x d.object) (pos 0) q (h.0 (grind (arith, nat_tests))) }

stop_tells :
    (n k : ℕ) (vs : List Visit) (v : Visit) (cs : List Clause) (ds : List Delta) →
    Tells (PeaksFit k vs cs × KeepsFreezes v.site v.deltas ds) (stop_from n k vs v cs ds)
unfolding definitions meaning_definitions
stop_tells n k vs v [] ds =
    let t = frozen_tells n v.site v.deltas ds in
    record { none = λ e. (tt, t.none e); some = λ f e h. t.some f e h.1 }
stop_tells n k vs v (c ∷ cs) ds = go (stop_tells (suc n) k vs v cs ds) (int_le (total (peaks k vs c)) c.slack) refl
  where
    one : Stop
    one = Spent n (peaks k vs c) c.slack

    go :
        Tells (PeaksFit k vs cs × KeepsFreezes v.site v.deltas ds) (stop_from (suc n) k vs v cs ds) → (u : Bool) →
        int_le (total (peaks k vs c)) c.slack ≡ u →
        Tells (((total (peaks k vs c) ≤ℤ c.slack) × PeaksFit k vs cs) × KeepsFreezes v.site v.deltas ds) (cond u (stop_from (suc n) k vs v cs ds) (Some one))
    go rest true q =
        record { none = λ e. let r = rest.none e in ((at_most _ _ q, r.0), r.1); some = λ f e h. rest.some f e (h.0.1, h.1) }
    go rest false q =
        record { none = λ e. absurd (some_not_none one e); some = λ f e h. not_at_most _ _ q h.0.0 }

pub served_on : ServedOn
unfolding definitions meaning_definitions
served_on k t vs v some sited s =
    let tells = stop_tells 0 k (vs ++ v ∷ []) v t.clauses t.freezes in (
      λ none.
          let fit = tells.none none in
          let frozen = append_each (λ (v : Visit). KeepsFreezes v.site v.deltas t.freezes) vs (v ∷ []) (served_peaks k t vs s).1 (fit.1, tt) in
          let made = peaks_served k t (vs ++ v ∷ []) some sited fit.0 frozen in
          record { config = peak_config k (vs ++ v ∷ []) t.clauses; fits = made.0; serves = made.1 },
      λ b is served.
          let h = served_peaks k t (vs ++ v ∷ []) served in
          tells.some b is (h.0, (each_append (λ (v : Visit). KeepsFreezes v.site v.deltas t.freezes) vs (v ∷ []) h.1).1.0),
    )
