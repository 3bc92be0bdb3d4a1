-- The lines of a template's clauses, with one more.
use Rattle.std.proofs.Common.{◌≡◌, ℕ, ◌+◌, ◌<◌, List, [], ◌∷◌, ◌++◌, map, length, take, get_or, refl, sym, ap, ◌∙◌, arith}
use Rattle.std.specs.Prelude.{ℤ}
use Rattle.std.proofs.lemmas.List.{length-map, length-take-le}
use Rattle.homeo_lemmas.proofs.Lists.{map_take_more}
use Rattle.homeo_syntax.specs.Listed.{Listed}
use Rattle.homeo_syntax.specs.Source as s
use Rattle.homeo_plan.specs.PlanView.{plain_clause}
use Rattle.homeo_plan.specs.declared.templates.Clause.{Clause}
use Rattle.homeo_plan.specs.Template as template
use Rattle.homeo_print.specs.Key.{definitions}
use Rattle.homeo_print.specs.Treaties.{clause_text, clauses_text}
use Rattle.homeo_print.proofs.TreatySteps.{clauses_push, treaty_steps}

pub no_clauses : (w : s.Workload) (bounds : List (List ℤ)) → clauses_text w (map plain_clause []) bounds ≡ []
unfolding definitions
no_clauses w bounds = refl

-- the lists of bounds, as the code has them
abbrev pub lists : List (Listed ℤ) → List (List ℤ)
lists bounds = map (λ (b : Listed ℤ). b.items) bounds

pub clauses_more : (w : s.Workload) (clauses : List Clause) (bounds : List (Listed ℤ)) (i : ℕ) (c : Clause) (b : Listed ℤ) → length bounds ≡ length clauses → i < length clauses
    → c ≡ get_or clauses i c → b ≡ get_or bounds i b
    → clauses_text w (map plain_clause (take (i + 1) clauses)) (lists (take (i + 1) bounds))
    ≡ clauses_text w (map plain_clause (take i clauses)) (lists (take i bounds)) ++ clause_text w i (plain_clause c) b.items
clauses_more w clauses bounds i c b many within is_clause is_bounds =
    let cs : List template.Clause = map plain_clause (take i clauses) in
    let bs : List (List ℤ) = lists (take i bounds) in
    let clause_count : length cs ≡ i = omega (arith, length-map (take i clauses) plain_clause, length-take-le i clauses (omega arith)) in
    let bounds_count : length bs ≡ i = omega (arith, length-map (take i bounds) (λ (b : Listed ℤ). b.items), length-take-le i bounds (omega (arith, many))) in
    ap (λ l. clauses_text w l (lists (take (i + 1) bounds))) (map_take_more plain_clause clauses i c within is_clause)
    ∙ ap (clauses_text w (cs ++ plain_clause c ∷ [])) (map_take_more (λ (b : Listed ℤ). b.items) bounds i b (omega (arith, many)) is_bounds)
    ∙ clauses_push w cs bs (plain_clause c) b.items (bounds_count ∙ sym clause_count)
    ∙ ap (λ k. clauses_text w cs bs ++ clause_text w k (plain_clause c) b.items) clause_count

pub ruleset template_steps = (treaty_steps, no_clauses)
