-- The loop of `clauses_with`.
use Rattle.std.proofs.Common.{◌≡◌, map, take}
use Rattle.homeo_plan.specs.PlanView.{plain_clause}
use Rattle.homeo_template.specs.inner.Keys.{clause_at}
use Rattle.homeo_template.proofs.clauses.clauses_with.Given as goal

abbrev pub invariant-loop-key : goal.invariant-loop-key
invariant-loop-key l = map plain_clause l.clauses.items ≡ map clause_at (take l.key-index l.keys)
