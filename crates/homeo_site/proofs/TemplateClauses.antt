-- The clauses of a workload's template: their terms are in order, each delta once, and their factors are small.
use Rattle.std.proofs.Common.{ℕ, ◌+◌, ◌*◌, ◌<◌, Bool, true, false, cond, List, [], ◌∷◌, ◌++◌, map, ℤ, refl, sym, subst}
use Rattle.std.specs.List.{list_any}
use Rattle.homeo_syntax.specs.Source as s
use Rattle.homeo_meaning.specs.Acceptance.{weight_limit as largest, IsAccepted}
use Rattle.homeo_meaning.specs.Bounds.{IsWithin}
use Rattle.homeo_meaning.specs.Key.{definitions as meaning_definitions}
use Rattle.homeo_meaning.specs.LowMeaning.{whole}
use Rattle.homeo_meaning.specs.Schema.{schema_of}
use Rattle.homeo_meaning.specs.Serial.{values_of}
use Rattle.homeo_meaning.specs.Small.{IsSmall}
use Rattle.homeo_plan.specs.Key.{definitions as plan_definitions}
use Rattle.homeo_plan.specs.Each.{Each, Member}
use Rattle.homeo_plan.specs.FormSizes.{Numbers}
use Rattle.homeo_plan.specs.Linear.{Linear, is_empty}
use Rattle.homeo_plan.specs.Planned.{sites_of, planned_call, planned, template_at}
use Rattle.homeo_plan.specs.SmallForms.{HasSmallForms}
use Rattle.homeo_plan.specs.Table.{walk}
use Rattle.homeo_plan.specs.Template.{PlannedCall, shifted, base_row, atoms_of, Clause, clause_of, same_clause, with_clause, clauses_from, atoms_of_sets}
use Rattle.homeo_plan.proofs.AcceptedForms.{accepted_forms}
use Rattle.homeo_plan.proofs.Atoms.{append_each}
use Rattle.homeo_plan.proofs.Covering.{each_in}
use Rattle.homeo_plan.proofs.Order.{Sorted}
use Rattle.homeo_plan.proofs.PlannedCalls.{all_sites_below}
use Rattle.homeo_plan.proofs.Tables.{row_at_walk}
use Rattle.homeo_site.proofs.OrderedAtoms.{IsOrdered, true_ordered}
use Rattle.homeo_site.proofs.StepsRun.{HasGroundCall, has_ground_call}

-- the largest factor
abbrev pub factor_limit : ℕ
factor_limit = 2 * largest + 1

pub record IsTidy (c : Clause) : Type 0 where
  pub sorted : Sorted c.terms
  pub small : Each (λ t. IsSmall factor_limit t.factor) c.terms

-- an atom gives such a clause
abbrev GivesTidy : Linear → Type 0
unfolding plan_definitions
GivesTidy a = IsTidy (clause_of a)

tidy_atoms : (atoms : List Linear) → Each IsOrdered atoms → Each (Numbers (IsSmall factor_limit)) atoms → Each GivesTidy atoms
unfolding plan_definitions
tidy_atoms [] h k = tt
tidy_atoms (a ∷ more) h k = (record { sorted = h.0; small = k.0.factors }, tidy_atoms more h.1 k.1)

with_tidy : (cs : List Clause) (a : Linear) → GivesTidy a → Each IsTidy cs → Each IsTidy (with_clause cs a)
unfolding plan_definitions
with_tidy cs a one h = go (is_empty a.terms) (list_any (same_clause (clause_of a)) cs)
  where
    go : (v u : Bool) → Each IsTidy (cond v cs (cond u cs (cs ++ clause_of a ∷ [])))
    go true u = h
    go false true = h
    go false false = append_each IsTidy cs (clause_of a ∷ []) h (one, tt)

tidy_from : (cs : List Clause) (atoms : List Linear) → Each GivesTidy atoms → Each IsTidy cs → Each IsTidy (clauses_from cs atoms)
unfolding plan_definitions
tidy_from cs [] h k = k
tidy_from cs (a ∷ more) h k = tidy_from (with_clause cs a) more h.1 (with_tidy cs a h.0 k)

module _ (w : s.Workload) (base : List ℤ) (accepted : IsAccepted w) (within : IsWithin (schema_of w) base) where
  abbrev k : ℕ
  k = sites_of w

  abbrev b : ℕ → ℤ
  b = values_of base

  call_tidy : (g : PlannedCall) → Member g (planned w) → g.site < k → Each GivesTidy (atoms_of k b g)
  unfolding plan_definitions meaning_definitions
  call_tidy g m lt =
      let made : HasGroundCall w g = has_ground_call w g accepted m in
      let forms : HasSmallForms factor_limit b (walk (shifted k (planned_call w made.from)) (whole b)) =
      accepted_forms w made.from k made.from.site base accepted made.called within (subst (λ (c : PlannedCall). c.site < k) (sym made.is) lt) in
      let row : HasSmallForms factor_limit b (base_row k b g) =
      subst (HasSmallForms factor_limit b) (sym (row_at_walk (shifted k g) (whole b) (λ t. refl)))
      (subst (λ c. HasSmallForms factor_limit b (walk (shifted k c) (whole b))) made.is forms) in
      tidy_atoms (atoms_of k b g) (true_ordered b (base_row k b g).formula) row.atoms

  all_tidy :
      (gs : List PlannedCall) → Each (λ g. Member g (planned w)) gs → Each (λ g. g.site < k) gs →
      Each GivesTidy (atoms_of_sets (map (atoms_of k b) gs))
  unfolding plan_definitions
  all_tidy [] ms ls = tt
  all_tidy (g ∷ gs) ms ls =
      append_each GivesTidy (atoms_of k b g) (atoms_of_sets (map (atoms_of k b) gs)) (call_tidy g ms.0 ls.0) (all_tidy gs ms.1 ls.1)

  pub template_tidy : Each IsTidy (template_at w base).clauses
  unfolding plan_definitions
  template_tidy =
      tidy_from [] (atoms_of_sets (map (atoms_of k b) (planned w)))
      (all_tidy (planned w) (each_in (planned w) (planned w) (λ g m. m)) (all_sites_below w accepted)) tt
