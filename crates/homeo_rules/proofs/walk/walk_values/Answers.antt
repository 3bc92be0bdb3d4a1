use Rattle.homeo_rules.specs.inner.InForce.{rows_of}
use Rattle.homeo_rules.specs.inner.Scopes.{scope_in}
use Rattle.homeo_rules.proofs.Walks.{end-values}
use Rattle.homeo_rules.proofs.walk.walk_values.Goals as goal

pub returns : goal.returns
returns c = end-values (scope_in c.args.scope.now) (rows_of c.args.rows.now) c.loop-f.k c.args.k.now c.args.fs.now c.loop-f.f-index c.loop-f-test.false c.loop-f.invariant
