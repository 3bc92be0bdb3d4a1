use Rattle.std.proofs.Common.{◌≡◌, ◌++◌}
use Rattle.homeo_syntax.specs.SourceView.{plain_workload}
use Rattle.homeo_print.specs.Treaties.{clauses_text}
use Rattle.homeo_print.specs.inner.Clauses.{first_clauses, first_bounds}
use Rattle.homeo_print.proofs.treaties.push_clauses.Given as goal

abbrev pub invariant-loop-clause : goal.invariant-loop-clause
invariant-loop-clause l = l.out.items ≡ l.fn.out.items ++ clauses_text (plain_workload l.w) (first_clauses l.plan l.clause) (first_bounds l.plan l.clause)
