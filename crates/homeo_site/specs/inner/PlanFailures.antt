-- What fails at a site by a plan, number by number.
use Rattle.std.specs.Prelude.{◌≡◌, ◌<◌, ◌≤ℤ◌, ℕ, nat_lt, cond, [], length, slice_index_or, pos, Option, None}
use Rattle.homeo_plan.specs.declared.treaty.Broken.{Broken}
use Rattle.homeo_plan.specs.Joined.{Deltas}
use Rattle.homeo_outline.specs.ObjectPlan.{template_in, config_in}
use Rattle.homeo_outline.specs.declared.plan.ObjectPlan.{ObjectPlan}
use Rattle.homeo_site.specs.OwnTreaty.{own_clauses}
use Rattle.homeo_site.specs.inner.Failures.{own_failure, own_freeze_failure}

-- of the clauses and then of the freezes
abbrev pub plan_failure : ObjectPlan → ℕ → Deltas → ℕ → Option Broken
plan_failure p i x n =
    cond (nat_lt n (length (template_in p).clauses)) (own_failure (own_clauses i (template_in p).clauses (config_in p)) x n)
    (own_freeze_failure (length (template_in p).clauses) i (template_in p).freezes x n)

-- no clause fails that has the terms of clause m and no less slack
abbrev pub HoldLed : ObjectPlan → ℕ → Deltas → ℕ → Type 0
HoldLed p i x m =
    (n : ℕ) → n < length p.outline.value.terms → slice_index_or p.outline.value.terms m [] ≡ slice_index_or p.outline.value.terms n [] →
    slice_index_or p.slacks.items m (pos 0) ≤ℤ slice_index_or p.slacks.items n (pos 0) →
    own_failure (own_clauses i (template_in p).clauses (config_in p)) x n ≡ None
