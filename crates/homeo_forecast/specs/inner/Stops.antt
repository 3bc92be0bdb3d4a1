-- What stops a visit at one clause or freeze, by its number.
use Rattle.std.specs.Prelude.{ℕ, ◌==◌, ◌-◌, nat_lt, cond, List, [], length, slice_index_or, pos, int_le, ◌≤ℤ◌, ◌&&◌, not, Option, Some, None}
use Rattle.std.specs.Ordering.{int_eq}
use Rattle.homeo_plan.specs.declared.forms.Delta.{Delta}
use Rattle.homeo_plan.specs.Config.{total}
use Rattle.homeo_plan.specs.Joined.{Deltas}
use Rattle.homeo_plan.specs.Linear.{delta_of}
use Rattle.homeo_plan.specs.Template.{Clause}
use Rattle.homeo_plan.specs.Treaty.{site_sum, KeepsFreezes}
use Rattle.homeo_outline.specs.ObjectPlan.{template_in}
use Rattle.homeo_outline.specs.declared.plan.ObjectPlan.{ObjectPlan}
use Rattle.homeo_forecast.specs.Key.{definitions}
use Rattle.homeo_forecast.specs.Peaks.{Stop, Spent, Frozen, PeaksFit, peak, peaks}
use Rattle.homeo_forecast.specs.Visits.{Visit}

-- the number of what stops
abbrev pub stop_number : Stop → ℕ
stop_number (Spent n ps slack) = n
stop_number (Frozen n d value) = n

-- a clause of number n whose peaks after visits of k sites sum to more than its slack
abbrev pub clause_stop : ℕ → List Visit → ℕ → Clause → Option Stop
unfolding definitions
clause_stop k vs n c = cond (int_le (total (peaks k vs c)) c.slack) None (Some (Spent n (peaks k vs c) c.slack))

-- so of the clause of this number
abbrev pub clause_stop_at : ℕ → List Visit → List Clause → ℕ → Option Stop
unfolding definitions
clause_stop_at k vs cs n = clause_stop k vs n (slice_index_or cs n (record { terms = []; slack = pos 0 }))

-- a freeze of number n that isn't 0 at site i
abbrev pub freeze_stop : ℕ → ℕ → Deltas → Delta → Option Stop
unfolding definitions
freeze_stop n i x d = cond ((d.site == i) && not (int_eq (x d.object) (pos 0))) (Some (Frozen n d (x d.object))) None

-- so of the freeze of this number, where the first has number f
abbrev pub freeze_stop_at : ℕ → ℕ → Deltas → List Delta → ℕ → Option Stop
unfolding definitions
freeze_stop_at f i x ds n = freeze_stop n i x (slice_index_or ds (n - f) (delta_of 0 0))

-- by a plan, after visits of which the last is v
abbrev pub plan_stop : ObjectPlan → List Visit → Visit → ℕ → Option Stop
unfolding definitions
plan_stop p vs v n =
    cond (nat_lt n (length (template_in p).clauses)) (clause_stop_at p.outline.value.sites vs (template_in p).clauses n)
    (freeze_stop_at (length (template_in p).clauses) v.site v.deltas (template_in p).freezes n)

-- after visits that fit a site has deltas x, which keep the freezes and no sum of which is above its peak
pub record StandsAfter (p : ObjectPlan) (vs : List Visit) (site : ℕ) (x : Deltas) : Type 0 where
  pub fit : PeaksFit p.outline.value.sites vs (template_in p).clauses
  pub low : (c : Clause) → site_sum site c.terms x ≤ℤ peak c.terms site vs
  pub freezes : KeepsFreezes site x (template_in p).freezes
