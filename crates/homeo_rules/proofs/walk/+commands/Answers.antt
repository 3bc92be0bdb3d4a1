use Rattle.homeo_rules.specs.inner.InForce.{rows_of}
use Rattle.homeo_rules.specs.inner.Scopes.{scope_in}
use Rattle.homeo_rules.proofs.Walks.{end-commands}
use Rattle.homeo_rules.proofs.walk.+commands.Goals as goal

pub walk_commands-returns : goal.walk_commands-returns
walk_commands-returns t c = end-commands (scope_in c.args.scope.now) (rows_of c.args.rows.now) c.loop-c.k c.args.k.now c.args.cs.now c.loop-c.c-index c.loop-c-test.false c.loop-c.invariant
