-- What holds of each atom, where it gives something of the atom's clause, gives that of each of the clauses.
use Rattle.homeo_plan.specs.Key.{definitions}
use Rattle.std.proofs.Common.{Bool, true, false, cond, List, [], ◌∷◌, ◌++◌}
use Rattle.std.specs.List.{list_any}
use Rattle.homeo_plan.specs.Each.{Each}
use Rattle.homeo_plan.specs.Linear.{Linear, is_empty}
use Rattle.homeo_plan.specs.Template.{Clause, clause_of, same_clause, with_clause, clauses_from, atoms_of_sets}
use Rattle.homeo_plan.proofs.Atoms.{append_each}

module _ (P : Linear → Type 0) (Q : Clause → Type 0) (gives : (a : Linear) → P a → Q (clause_of a)) where
  with_one : (cs : List Clause) (a : Linear) → P a → Each Q cs → Each Q (with_clause cs a)
  unfolding definitions
  with_one cs a here all = go (is_empty a.terms) (list_any (same_clause (clause_of a)) cs)
    where
      go : (v w : Bool) → Each Q (cond v cs (cond w cs (cs ++ clause_of a ∷ [])))
      go true w = all
      go false true = all
      go false false = append_each Q cs (clause_of a ∷ []) all (gives a here, tt)

  -- with more atoms behind the clauses so far
  pub each_from : (cs : List Clause) (atoms : List Linear) → Each P atoms → Each Q cs → Each Q (clauses_from cs atoms)
  unfolding definitions
  each_from cs [] here all = all
  each_from cs (a ∷ more) here all = each_from (with_clause cs a) more here.1 (with_one cs a here.0 all)

pub each_of_sets : (P : Linear → Type 0) (sets : List (List Linear)) → Each (Each P) sets → Each P (atoms_of_sets sets)
unfolding definitions
each_of_sets P [] all = tt
each_of_sets P (atoms ∷ more) all = append_each P atoms (atoms_of_sets more) all.0 (each_of_sets P more all.1)
