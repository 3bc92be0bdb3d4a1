-- Templates (Roy et al., SIGMOD 2015): what all treaties of a round that begins at a base ask of the deltas. Which atoms give
-- clauses, which deltas are frozen, and in which order both stand, is this project's rule.
use Rattle.std.specs.Prelude.{◌≡◌, ℕ, Bool, true, false, cond, ◌&&◌, List, [], ◌∷◌, ◌++◌, map, ℤ, neg_ℤ}
use Rattle.std.specs.Ordering.{int_eq}
use Rattle.std.specs.List.{flat_map, list_any}
use Rattle.homeo_syntax.specs.Low.{Command}
use Rattle.homeo_meaning.specs.LowMeaning.{whole}
use Rattle.homeo_plan.specs.Key.{definitions}
use Rattle.homeo_plan.specs.Each.{Each, Member}
use Rattle.homeo_plan.specs.Split.{shift}
use Rattle.homeo_plan.specs.Table.{Row, table, row_at}
use Rattle.homeo_plan.specs.declared.forms.Delta.{Delta}
use Rattle.homeo_plan.specs.declared.forms.Term.{Term}
use Rattle.homeo_plan.specs.Linear.{same_delta, Linear, add_deltas, is_empty}
use Rattle.homeo_plan.specs.Atoms.{true_cond}
use Rattle.homeo_plan.specs.Needs.{needs}

-- a ground call as it is analysed: its site, and its L form, a command over whole objects
pub record PlannedCall : Type 0 where
  pub site : ℕ
  pub command : Command

-- its command for its site of k
abbrev pub shifted : ℕ → PlannedCall → Command
unfolding definitions
shifted k g = shift k g.site g.command

-- its row at the base
abbrev pub base_row : ℕ → (ℕ → ℤ) → PlannedCall → Row
unfolding definitions
base_row k b g = row_at (table (shifted k g)) (whole b)

-- the atoms of that row's formula
abbrev pub atoms_of : ℕ → (ℕ → ℤ) → PlannedCall → List Linear
unfolding definitions
atoms_of k b g = true_cond b (base_row k b g).formula

-- the needs of that row's residual
abbrev pub needs_of : ℕ → (ℕ → ℤ) → PlannedCall → List Delta
unfolding definitions
needs_of k b g = needs g.site b (base_row k b g).residual

-- a clause: the sum of factor times delta is at most the slack
pub record Clause : Type 0 where
  pub terms : List Term
  pub slack : ℤ

-- of an atom: its constant negated is the slack
abbrev pub clause_of : Linear → Clause
unfolding definitions
clause_of a = record { terms = a.terms; slack = neg_ℤ a.constant }

-- ---- equal clauses
-- the same delta by the same factor
abbrev pub same_term : Term → Term → Bool
unfolding definitions
same_term a b = same_delta a.delta b.delta && int_eq a.factor b.factor

-- the same terms in the same order
abbrev pub same_terms : List Term → List Term → Bool
unfolding definitions
same_terms [] [] = true
same_terms [] (b ∷ bs) = false
same_terms (a ∷ ts) [] = false
same_terms (a ∷ ts) (b ∷ bs) = same_term a b && same_terms ts bs

-- the same terms and the same slack
abbrev pub same_clause : Clause → Clause → Bool
unfolding definitions
same_clause a b = same_terms a.terms b.terms && int_eq a.slack b.slack

-- ---- clauses and freezes of many calls
-- the clauses so far and that of one more atom, unless it has no terms or was there
abbrev pub with_clause : List Clause → Linear → List Clause
unfolding definitions
with_clause cs a =
    cond (is_empty a.terms) cs (cond (list_any (same_clause (clause_of a)) cs) cs (cs ++ clause_of a ∷ []))

-- the clauses so far and those of more atoms
abbrev pub clauses_from : List Clause → List Linear → List Clause
unfolding definitions
clauses_from cs [] = cs
clauses_from cs (a ∷ more) = clauses_from (with_clause cs a) more

-- the atoms of each set, one set after another
abbrev pub atoms_of_sets : List (List Linear) → List Linear
unfolding definitions
atoms_of_sets sets = flat_map (λ atoms. atoms) sets

-- lists of deltas put into the others, one after another
abbrev pub put_all : List (List Delta) → List Delta → List Delta
unfolding definitions
put_all [] out = out
put_all (ds ∷ more) out = put_all more (add_deltas ds out)

-- the clauses, in the order of the atoms, and the deltas that are frozen at 0, in their own order
pub record Template : Type 0 where
  pub clauses : List Clause
  pub freezes : List Delta

-- of sets of atoms, and of lists of deltas that are needed: what an atom mixes is frozen, and so is what is needed
abbrev pub join_sets : List (List Linear) → List (List Delta) → Template
unfolding definitions
join_sets sets needed = record {
  clauses = clauses_from [] (atoms_of_sets sets);
  freezes = put_all needed (put_all (map (λ a. a.mixed) (atoms_of_sets sets)) []);
}

-- of ground calls, for k sites at a base
abbrev pub template : ℕ → (ℕ → ℤ) → List PlannedCall → Template
unfolding definitions
template k b gs = join_sets (map (atoms_of k b) gs) (map (needs_of k b) gs)

-- each atom of a call has its clause in the template, and what it mixes and needs is frozen there
pub record Covers (t : Template) (k : ℕ) (b : ℕ → ℤ) (g : PlannedCall) : Type 0 where
  pub clauses : Each (λ a. is_empty a.terms ≡ false → Member (clause_of a) t.clauses) (atoms_of k b g)
  pub mixed : Each (λ a. Each (λ d. Member d t.freezes) a.mixed) (atoms_of k b g)
  pub needs : Each (λ d. Member d t.freezes) (needs_of k b g)
