-- The numbers of clauses and of freezes that are of an object.
use Rattle.std.specs.Prelude.{◌==◌, ℕ, suc, Bool, cond, List, [], ◌∷◌}
use Rattle.std.specs.List.{list_any}
use Rattle.homeo_plan.specs.declared.forms.Delta.{Delta}
use Rattle.homeo_plan.specs.declared.forms.Term.{Term}

-- the number is in the list
abbrev pub has : ℕ → List ℕ → Bool
has n ns = list_any (λ m. n == m) ns

-- the numbers, from n on, of the items that pass a test
abbrev pub numbers_where : {X : Type 0} → (X → Bool) → ℕ → List X → List ℕ
numbers_where test n [] = []
numbers_where test n (x ∷ xs) = cond (test x) (n ∷ numbers_where test (suc n) xs) (numbers_where test (suc n) xs)

-- a term is on object x, at whichever site
abbrev pub names_object : ℕ → List Term → Bool
names_object x ts = list_any (λ t. t.delta.object == x) ts

-- the numbers, from 0, of the clauses with these terms that name object x
abbrev pub clauses_on : ℕ → List (List Term) → List ℕ
clauses_on x tss = numbers_where (names_object x) 0 tss

-- the numbers, from n on, of the freezes of object x, at whichever site
abbrev pub freezes_on : ℕ → ℕ → List Delta → List ℕ
freezes_on x n ds = numbers_where (λ d. d.object == x) n ds
