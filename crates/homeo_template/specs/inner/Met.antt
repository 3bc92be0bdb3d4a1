-- Sets of atoms whose clauses are among others.
use Rattle.std.specs.Prelude.{◌≡◌, ℕ, Bool, true, false, List, slice_index_or}
use Rattle.std.specs.List.{list_any}
use Rattle.std.specs.declared.sync.Arc.{Arc}
use Rattle.homeo_plan.specs.Each.{Each}
use Rattle.homeo_plan.specs.Linear.{Linear, is_empty}
use Rattle.homeo_plan.specs.PlanView.{plain_atoms}
use Rattle.homeo_plan.specs.Template.{Clause, clause_of, same_clause}
use Rattle.homeo_follow.specs.declared.part.PlanPart.{PlanPart}
use Rattle.homeo_template.specs.Places.{set_at}

abbrev pub atoms_of_part : {Z : Type 0} → Arc PlanPart Z → List Linear
atoms_of_part p = plain_atoms p.value.atoms

-- each atom of a set that has a clause has it among these
abbrev pub HaveClauses : List Clause → List Linear → Type 0
HaveClauses cs atoms = Each (λ a. is_empty a.terms ≡ false → list_any (same_clause (clause_of a)) cs ≡ true) atoms

-- each set whose place is marked has its clauses among these
abbrev pub AreMet : List Bool → List (List Linear) → List Clause → Type 0
AreMet met sets cs = (n : ℕ) → slice_index_or met n false ≡ true → HaveClauses cs (set_at sets n)
