-- What a site keeps of a treaty's clauses.
use Rattle.std.specs.Prelude.{ℕ, ◌==◌, cond, List, [], ◌∷◌, ℤ, pos, ◌+ℤ◌, ◌*ℤ◌, All, take, FitsSigned}
use Rattle.std.specs.Int.{w128}
use Rattle.homeo_plan.specs.declared.forms.Term.{Term}
use Rattle.homeo_plan.specs.Joined.{Deltas}
use Rattle.homeo_plan.specs.Template.{Clause}
use Rattle.homeo_plan.specs.Config.{Config}
use Rattle.homeo_plan.specs.Treaty.{bound_at}
use Rattle.homeo_site.specs.Key.{definitions}

-- a factor, and the object of the own delta that is taken by it
pub record OwnTerm : Type 0 where
  pub object : ℕ
  pub factor : ℤ

-- a term over whole objects, as it stands on a site's own delta
abbrev pub own_term : Term → OwnTerm
unfolding definitions
own_term t = record { object = t.delta.object; factor = t.factor }

-- the terms on deltas of site i
abbrev pub own_terms : ℕ → List Term → List OwnTerm
unfolding definitions
own_terms i [] = []
own_terms i (t ∷ ts) =
    cond (t.delta.site == i) (record { object = t.delta.object; factor = t.factor } ∷ own_terms i ts) (own_terms i ts)

-- the sum of factor times delta
abbrev pub own_sum : List OwnTerm → Deltas → ℤ
unfolding definitions
own_sum [] x = pos 0
own_sum (t ∷ ts) x = (t.factor *ℤ x t.object) +ℤ own_sum ts x

-- each product, and each sum of the first terms, is within the range of i128
pub record SumsFit (ts : List OwnTerm) (x : Deltas) : Type 0 where
  pub products : All (λ t. FitsSigned w128 (t.factor *ℤ x t.object)) ts
  pub sums : (k : ℕ) → FitsSigned w128 (own_sum (take k ts) x)

-- a clause with the terms and the bound of one site
pub record OwnClause : Type 0 where
  pub terms : List OwnTerm
  pub bound : ℤ

-- of each clause, with the bounds that stand at its place: 0 where there are none
abbrev pub own_clauses : ℕ → List Clause → Config → List OwnClause
unfolding definitions
own_clauses i [] bs = []
own_clauses i (c ∷ cs) [] = record { terms = own_terms i c.terms; bound = pos 0 } ∷ own_clauses i cs []
own_clauses i (c ∷ cs) (b ∷ bs) = record { terms = own_terms i c.terms; bound = bound_at b i } ∷ own_clauses i cs bs
