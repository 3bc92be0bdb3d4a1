-- Which numbers of clauses and freezes are at the objects that commands write, and numbers as marks.
use Rattle.std.specs.Prelude.{ℕ, ◌==◌, Bool, ◌&&◌, List, map, length}
use Rattle.std.specs.List.{list_any}
use Rattle.homeo_plan.specs.declared.forms.Delta.{Delta}
use Rattle.homeo_plan.specs.declared.forms.Term.{Term}
use Rattle.homeo_outline.specs.Numbers.{has, numbers_where, clauses_on}
use Rattle.homeo_outline.specs.Outlined.{Outlined}

-- the objects of deltas
abbrev pub objects_of : List Delta → List ℕ
objects_of ds = map (λ d. d.object) ds

-- the number is that of a clause with these terms that names one of the objects
abbrev pub is_clause_on : List (List Term) → ℕ → List ℕ → Bool
is_clause_on tss n xs = list_any (λ x. has n (clauses_on x tss)) xs

-- the numbers of the freezes of object x at site i: they go on after those of all clauses
abbrev pub freezes_at : ℕ → ℕ → Outlined → List ℕ
freezes_at x i o = numbers_where (λ d. (d.object == x) && (d.site == i)) (length o.terms) o.freezes

-- the number is that of a freeze, at site i, of one of the objects
abbrev pub is_freeze_on : Outlined → ℕ → ℕ → List ℕ → Bool
is_freeze_on o i n xs = list_any (λ x. has n (freezes_at x i o)) xs

-- the numbers, from n on, whose marks are set
abbrev pub marked_from : ℕ → List Bool → List ℕ
marked_from n marks = numbers_where (λ mark. mark) n marks
