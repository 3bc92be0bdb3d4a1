-- The peaks of the sites in a clause, and what stops one visit more (this project's rule).
use Rattle.std.specs.Prelude.{ℕ, zero, suc, ◌==◌, cond, List, [], ◌∷◌, ◌++◌, ℤ, pos, int_le, ◌-ℤ◌, ◌≤ℤ◌, ◌&&◌, not, Option, Some, None}
use Rattle.std.specs.Int.{int_max}
use Rattle.std.specs.Ordering.{int_eq}
use Rattle.homeo_plan.specs.Key.{definitions}
use Rattle.homeo_plan.specs.Each.{Each}
use Rattle.homeo_plan.specs.Joined.{Deltas}
use Rattle.homeo_plan.specs.declared.forms.Delta.{Delta}
use Rattle.homeo_plan.specs.declared.forms.Term.{Term}
use Rattle.homeo_plan.specs.Template.{Clause, Template}
use Rattle.homeo_plan.specs.Config.{Config, total}
use Rattle.homeo_plan.specs.Treaty.{site_sum, KeepsFreezes}
use Rattle.homeo_forecast.specs.Visits.{Visit}

-- the greatest of 0 and of the sums of a clause's terms at site i, after each visit of this site
abbrev pub peak : List Term → ℕ → List Visit → ℤ
unfolding definitions
peak ts i [] = pos 0
peak ts i (v ∷ vs) = cond (v.site == i) (int_max (site_sum i ts v.deltas) (peak ts i vs)) (peak ts i vs)

-- the peaks of k sites, from site i on
abbrev pub peaks_from : List Term → List Visit → ℕ → ℕ → List ℤ
unfolding definitions
peaks_from ts vs i zero = []
peaks_from ts vs i (suc k) = peak ts i vs ∷ peaks_from ts vs (suc i) k

abbrev pub peaks : ℕ → List Visit → Clause → List ℤ
unfolding definitions
peaks k vs c = peaks_from c.terms vs 0 k

-- each site from 1 on has its peak as its bound, and site 0 has what is left of the slack
abbrev pub peak_bounds : ℕ → List Visit → Clause → List ℤ
unfolding definitions
peak_bounds zero vs c = []
peak_bounds (suc k) vs c = (c.slack -ℤ total (peaks_from c.terms vs 1 k)) ∷ peaks_from c.terms vs 1 k

abbrev pub peak_config : ℕ → List Visit → List Clause → Config
unfolding definitions
peak_config k vs [] = []
peak_config k vs (c ∷ cs) = peak_bounds k vs c ∷ peak_config k vs cs

-- in each clause the peaks sum to at most the slack
abbrev pub PeaksFit : ℕ → List Visit → List Clause → Type 0
unfolding definitions
PeaksFit k vs cs = Each (λ c. total (peaks k vs c) ≤ℤ c.slack) cs

-- each visit keeps the freezes of its site
abbrev pub KeepFreezes : List Visit → List Delta → Type 0
unfolding definitions
KeepFreezes vs ds = Each (λ v. KeepsFreezes v.site v.deltas ds) vs

-- ---- stops
pub data Stop : Type 0 where
  -- a clause whose peaks sum to more than its slack: its number, the peaks and the slack
  Spent : ℕ → List ℤ → ℤ → Stop
  -- a frozen delta that is written away from 0: its number, the delta and its value
  Frozen : ℕ → Delta → ℤ → Stop

-- the lowest of freezes numbered from n on that isn't 0 at site i
abbrev pub frozen_from : ℕ → ℕ → Deltas → List Delta → Option Stop
unfolding definitions
frozen_from n i x [] = None
frozen_from n i x (d ∷ ds) =
    cond ((d.site == i) && not (int_eq (x d.object) (pos 0))) (Some (Frozen n d (x d.object))) (frozen_from (suc n) i x ds)

-- the lowest of clauses numbered from n on whose peaks don't fit after visits, and else the lowest of these freezes that the
-- last of them, v, doesn't keep: the freezes are numbered behind the clauses
abbrev pub stop_from : ℕ → ℕ → List Visit → Visit → List Clause → List Delta → Option Stop
unfolding definitions
stop_from n k vs v [] ds = frozen_from n v.site v.deltas ds
stop_from n k vs v (c ∷ cs) ds =
    cond (int_le (total (peaks k vs c)) c.slack) (stop_from (suc n) k vs v cs ds) (Some (Spent n (peaks k vs c) c.slack))

-- what stops the visit v behind the visits vs
abbrev pub first_stop : ℕ → Template → List Visit → Visit → Option Stop
unfolding definitions
first_stop k t vs v = stop_from 0 k (vs ++ v ∷ []) v t.clauses t.freezes
