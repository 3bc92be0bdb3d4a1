use Rattle.std.proofs.Common.{◌≡◌, map, take}
use Rattle.homeo_plan.specs.PlanView.{plain_clause}
use Rattle.homeo_plan.proofs.templates.copy_clauses.Given as goal

abbrev pub invariant-loop-clause : goal.invariant-loop-clause
invariant-loop-clause l = map plain_clause l.copy.items ≡ map plain_clause (take l.clause-index l.clauses)
