-- The least slacks of the clauses so far.
use Rattle.std.proofs.Common.{map, take}
use Rattle.homeo_plan.specs.PlanView.{plain_clause}
use Rattle.homeo_verify.specs.inner.Slacks.{AreSlacks}
use Rattle.homeo_verify.proofs.table.ClauseTable.of.Given as goal

abbrev pub invariant-loop-clause : goal.invariant-loop-clause
invariant-loop-clause l = AreSlacks l.least (map plain_clause (take l.clause-index l.clauses))
