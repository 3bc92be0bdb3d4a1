use Rattle.std.proofs.Common.{◌≡◌, drop}
use Rattle.homeo_rules.specs.inner.Along.{along_exprs, along_tests}
use Rattle.homeo_rules.specs.inner.InForce.{rows_of}
use Rattle.homeo_rules.specs.inner.Scopes.{scope_in}
use Rattle.homeo_rules.proofs.walk.+phrases.Given as goal

abbrev pub invariant-walk_exprs-loop-e : goal.invariant-walk_exprs-loop-e
invariant-walk_exprs-loop-e l = along_exprs (scope_in l.scope) (rows_of l.rows) l.k (drop l.e-index l.es) ≡ along_exprs (scope_in l.scope) (rows_of l.rows) l.initial.k l.es

abbrev pub invariant-walk_tests-loop-t : goal.invariant-walk_tests-loop-t
invariant-walk_tests-loop-t l = along_tests (scope_in l.scope) (rows_of l.rows) l.k (drop l.t-index l.ts) ≡ along_tests (scope_in l.scope) (rows_of l.rows) l.initial.k l.ts
