use Rattle.homeo_rules.specs.inner.InForce.{rows_of}
use Rattle.homeo_rules.specs.inner.Scopes.{scope_in}
use Rattle.homeo_rules.proofs.Walks.{end-exprs, end-tests}
use Rattle.homeo_rules.proofs.walk.+phrases.Goals as goal

pub walk_exprs-returns : goal.walk_exprs-returns
walk_exprs-returns t c = end-exprs (scope_in c.args.scope.now) (rows_of c.args.rows.now) c.loop-e.k c.args.k.now c.args.es.now c.loop-e.e-index c.loop-e-test.false c.loop-e.invariant

pub walk_tests-returns : goal.walk_tests-returns
walk_tests-returns t c = end-tests (scope_in c.args.scope.now) (rows_of c.args.rows.now) c.loop-t.k c.args.k.now c.args.ts.now c.loop-t.t-index c.loop-t-test.false c.loop-t.invariant
