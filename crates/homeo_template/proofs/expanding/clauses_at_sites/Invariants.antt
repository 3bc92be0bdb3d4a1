-- The clauses so far.
use Rattle.std.proofs.Common.{◌≡◌, map, take}
use Rattle.homeo_plan.specs.PlanView.{plain_clause}
use Rattle.homeo_follow.specs.ObjectTemplate.{expanded_clause}
use Rattle.homeo_template.proofs.expanding.clauses_at_sites.Given as goal

abbrev pub invariant-loop-clause : goal.invariant-loop-clause
invariant-loop-clause l = map plain_clause l.clauses.items ≡ map (λ c. expanded_clause l.sites (plain_clause c)) (take l.clause-index l.given)
