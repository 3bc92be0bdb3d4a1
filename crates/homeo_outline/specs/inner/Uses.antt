-- Tables of numbers by object.
use Rattle.std.specs.Prelude.{◌≡◌, ℕ, List, [], slice_index_or}
use Rattle.homeo_plan.specs.declared.forms.Delta.{Delta}
use Rattle.homeo_plan.specs.declared.forms.Term.{Term}
use Rattle.homeo_outline.specs.Numbers.{has, clauses_on, freezes_on}

-- the numbers at object x: none past the end
abbrev pub at_object : ℕ → List (List ℕ) → List ℕ
at_object x uses = slice_index_or uses x []

-- at each object stand the numbers of the clauses that name it
abbrev pub KeepsClauses : List (List Term) → List (List ℕ) → Type 0
KeepsClauses tss uses = (x n : ℕ) → has n (at_object x uses) ≡ has n (clauses_on x tss)

-- at each object stand the numbers, from first on, of its freezes
abbrev pub KeepsFreezes : ℕ → List Delta → List (List ℕ) → Type 0
KeepsFreezes first ds uses = (x n : ℕ) → has n (at_object x uses) ≡ has n (freezes_on x first ds)
