-- Small constants give small slacks, and constants that are at most 0 give slacks that aren't negative.
use Rattle.homeo_plan.specs.Key.{definitions}
use Rattle.std.proofs.Common.{◌≡◌, List, [], ◌∷◌, map, subst, sym}
use Rattle.std.specs.List.{All}
use Rattle.std.proofs.lemmas.List.Elements.{All-head, All-tail}
use Rattle.homeo_plan.specs.declared.forms.AtomSet.{AtomSet}
use Rattle.homeo_plan.specs.Config.{HaveSlack}
use Rattle.homeo_plan.specs.PlanView.{plain_atoms}
use Rattle.homeo_plan.specs.Each.{Each}
use Rattle.homeo_plan.specs.Linear.{Linear}
use Rattle.homeo_plan.specs.Template.{Clause, clauses_from, atoms_of_sets}
use Rattle.homeo_plan.specs.Tracking.{IsBelowAtBase}
use Rattle.homeo_plan.proofs.AtomClauses.{each_from, each_of_sets}
use Rattle.homeo_plan.proofs.Policy.{slacks_from}
use Rattle.homeo_template.proofs.Slacks.{HasSmallConstant, HasSmallSlack, small-slack}

each_set : (P : Linear → Type 0) (sets : List AtomSet) → All (λ s. Each P (plain_atoms s)) sets → Each (Each P) (map plain_atoms sets)
unfolding definitions
each_set P [] all = tt
each_set P (s ∷ sets) all = (All-head (λ s. Each P (plain_atoms s)) s sets all, each_set P sets (All-tail (λ s. Each P (plain_atoms s)) s sets all))

all_atoms : (P : Linear → Type 0) (sets : List AtomSet) → All (λ s. Each P (plain_atoms s)) sets → Each P (atoms_of_sets (map plain_atoms sets))
all_atoms P sets all = each_of_sets P (map plain_atoms sets) (each_set P sets all)

none-small : Each HasSmallSlack []
unfolding definitions
none-small = tt

pub small-slacks :
    (sets : List AtomSet) (cs : List Clause) → All (λ s. Each HasSmallConstant (plain_atoms s)) sets →
    cs ≡ clauses_from [] (atoms_of_sets (map plain_atoms sets)) → Each HasSmallSlack cs
small-slacks sets cs small e =
    subst (λ cs. Each HasSmallSlack cs) (sym e)
    (each_from HasSmallConstant HasSmallSlack small-slack [] (atoms_of_sets (map plain_atoms sets)) (all_atoms HasSmallConstant sets small) none-small)

pub have-slack :
    (sets : List AtomSet) (cs : List Clause) → All (λ s. Each IsBelowAtBase (plain_atoms s)) sets →
    cs ≡ clauses_from [] (atoms_of_sets (map plain_atoms sets)) → HaveSlack cs
have-slack sets cs below e = subst HaveSlack (sym e) (slacks_from (atoms_of_sets (map plain_atoms sets)) (all_atoms IsBelowAtBase sets below))
