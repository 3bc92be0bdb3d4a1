-- What fails of a treaty at one number, and the first that fails of several.
use Rattle.std.specs.Prelude.{ℕ, zero, suc, ◌-◌, slice_index_or, ◌==◌, cond, List, [], ◌∷◌, ℤ, pos, int_le, Option, Some, None}
use Rattle.std.specs.Ordering.{int_eq}
use Rattle.homeo_plan.specs.declared.treaty.Broken.{Broken}
use Rattle.homeo_plan.specs.declared.forms.Delta.{Delta}
use Rattle.homeo_plan.specs.Joined.{Deltas}
use Rattle.homeo_plan.specs.Template.{Clause, Template}
use Rattle.homeo_plan.specs.Config.{Config}
use Rattle.homeo_plan.specs.Treaty.{site_sum, bound_at}
use Rattle.homeo_plan.specs.Linear.{delta_of}
use Rattle.homeo_site.specs.Key.{definitions}
use Rattle.homeo_site.specs.OwnTreaty.{OwnClause, own_sum}

-- the number of what fails
abbrev pub clause_number : Broken → ℕ
clause_number b = b.clause

-- a sum above the bound fails
abbrev pub sum_failure : ℕ → ℤ → ℤ → Option Broken
unfolding definitions
sum_failure n sum bound = cond (int_le sum bound) None (Some (record { clause = n; sum = sum; bound = bound }))

-- a frozen delta that isn't 0 fails
abbrev pub frozen_failure : ℕ → ℤ → Option Broken
unfolding definitions
frozen_failure n value = cond (int_eq value (pos 0)) None (Some (record { clause = n; sum = value; bound = pos 0 }))

-- so where the delta is one of site i
abbrev pub freeze_failure : ℕ → ℕ → Deltas → Delta → Option Broken
unfolding definitions
freeze_failure n i x d = cond (d.site == i) (frozen_failure n (x d.object)) None

-- of freezes numbered from n on, what fails of the one at this place
abbrev pub freeze_failure_from : ℕ → ℕ → Deltas → List Delta → ℕ → Option Broken
unfolding definitions
freeze_failure_from n i x [] m = None
freeze_failure_from n i x (d ∷ ds) zero = freeze_failure n i x d
freeze_failure_from n i x (d ∷ ds) (suc m) = freeze_failure_from (suc n) i x ds m

-- so of clauses numbered from n on, and then of freezes
abbrev pub failure_from : ℕ → ℕ → Deltas → List Clause → Config → List Delta → ℕ → Option Broken
unfolding definitions
failure_from n i x [] bs ds m = freeze_failure_from n i x ds m
failure_from n i x (c ∷ cs) [] ds m = sum_failure n (site_sum i c.terms x) (pos 0)
failure_from n i x (c ∷ cs) (b ∷ bs) ds zero = sum_failure n (site_sum i c.terms x) (bound_at b i)
failure_from n i x (c ∷ cs) (b ∷ bs) ds (suc m) = failure_from (suc n) i x cs bs ds m

-- what fails of the treaty of site i at a number
abbrev pub failure_at : Template → Config → ℕ → Deltas → ℕ → Option Broken
unfolding definitions
failure_at t config i x m = failure_from 0 i x t.clauses config t.freezes m

-- ---- what a site keeps of the treaty
-- what fails at a number of a site's own clauses
abbrev pub own_failure : List OwnClause → Deltas → ℕ → Option Broken
unfolding definitions
own_failure cs x n =
    let c : OwnClause = slice_index_or cs n (record { terms = []; bound = pos 0 }) in
    sum_failure n (own_sum c.terms x) c.bound

-- what fails of freezes at a number, where the first has number k
abbrev pub own_freeze_failure : ℕ → ℕ → List Delta → Deltas → ℕ → Option Broken
unfolding definitions
own_freeze_failure k i ds x n = freeze_failure n i x (slice_index_or ds (n - k) (delta_of 0 0))
