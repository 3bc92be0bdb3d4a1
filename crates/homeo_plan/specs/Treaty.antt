-- Treaties (Roy et al., SIGMOD 2015): what a site keeps of a template by itself. What fails first, in clauses and then in
-- freezes, is this project's rule.
use Rattle.std.specs.Prelude.{◌≡◌, ℕ, suc, ◌==◌, cond, List, [], ◌∷◌, ℤ, pos, int_le, ◌+ℤ◌, ◌*ℤ◌, ◌≤ℤ◌, ◌&&◌, not, Option, Some, None, slice_index_or}
use Rattle.std.specs.Ordering.{int_eq}
use Rattle.homeo_plan.specs.declared.treaty.Broken.{Broken}
use Rattle.homeo_plan.specs.Key.{definitions}
use Rattle.homeo_plan.specs.Each.{Each}
use Rattle.homeo_plan.specs.declared.forms.Delta.{Delta}
use Rattle.homeo_plan.specs.declared.forms.Term.{Term}
use Rattle.homeo_plan.specs.Template.{Clause, Template}
use Rattle.homeo_plan.specs.Config.{Config}
use Rattle.homeo_plan.specs.Joined.{Deltas}

-- the sum of factor times delta over the deltas of site i
abbrev pub site_sum : ℕ → List Term → Deltas → ℤ
unfolding definitions
site_sum i [] x = pos 0
site_sum i (t ∷ ts) x = cond (t.delta.site == i) (t.factor *ℤ x t.delta.object) (pos 0) +ℤ site_sum i ts x

-- the bound of site i: 0 where there is none
abbrev pub bound_at : List ℤ → ℕ → ℤ
unfolding definitions
bound_at bounds i = slice_index_or bounds i (pos 0)

-- in each clause the site's sum is at most its bound
abbrev pub KeepsClauses : ℕ → Deltas → List Clause → Config → Type 0
unfolding definitions
KeepsClauses i x [] bs = Unit {0}
KeepsClauses i x (c ∷ cs) [] = ⊥
KeepsClauses i x (c ∷ cs) (b ∷ bs) = (site_sum i c.terms x ≤ℤ bound_at b i) × KeepsClauses i x cs bs

-- each frozen delta of the site is 0
abbrev pub KeepsFreezes : ℕ → Deltas → List Delta → Type 0
unfolding definitions
KeepsFreezes i x ds = Each (λ d. d.site ≡ i → x d.object ≡ pos 0) ds

-- the treaty of site i holds of its deltas x
pub record Treaty (t : Template) (config : Config) (i : ℕ) (x : Deltas) : Type 0 where
  pub clauses : KeepsClauses i x t.clauses config
  pub freezes : KeepsFreezes i x t.freezes

-- ---- findings: the number that fails, with the site's sum and bound, or with a frozen delta's value and 0
-- of freezes numbered from n on
abbrev pub broken_freeze : ℕ → ℕ → Deltas → List Delta → Option Broken
unfolding definitions
broken_freeze n i x [] = None
broken_freeze n i x (d ∷ ds) =
    cond ((d.site == i) && not (int_eq (x d.object) (pos 0))) (Some (record { clause = n; sum = x d.object; bound = pos 0 }))
    (broken_freeze (suc n) i x ds)

-- of clauses numbered from n on, and then of freezes; a clause for which there are no bounds fails, with bound 0
abbrev pub broken_from : ℕ → ℕ → Deltas → List Clause → Config → List Delta → Option Broken
unfolding definitions
broken_from n i x [] bs ds = broken_freeze n i x ds
broken_from n i x (c ∷ cs) [] ds = Some (record { clause = n; sum = site_sum i c.terms x; bound = pos 0 })
broken_from n i x (c ∷ cs) (b ∷ bs) ds =
    cond (int_le (site_sum i c.terms x) (bound_at b i)) (broken_from (suc n) i x cs bs ds)
    (Some (record { clause = n; sum = site_sum i c.terms x; bound = bound_at b i }))

-- the finding of the lowest number that fails: none where the treaty holds
abbrev pub finding : Template → Config → ℕ → Deltas → Option Broken
unfolding definitions
finding t config i x = broken_from 0 i x t.clauses config t.freezes

-- there is a finding exactly where the treaty doesn't hold
pub record Finds (t : Template) (config : Config) (i : ℕ) (x : Deltas) : Type 0 where
  pub none : finding t config i x ≡ None → Treaty t config i x
  pub some : (f : Broken) → finding t config i x ≡ Some f → Treaty t config i x → ⊥
