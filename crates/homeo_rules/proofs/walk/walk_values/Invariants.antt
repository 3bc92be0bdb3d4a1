use Rattle.std.proofs.Common.{◌≡◌, drop}
use Rattle.homeo_rules.specs.inner.Along.{along_values}
use Rattle.homeo_rules.specs.inner.InForce.{rows_of}
use Rattle.homeo_rules.specs.inner.Scopes.{scope_in}
use Rattle.homeo_rules.proofs.walk.walk_values.Given as goal

abbrev pub invariant-loop-f : goal.invariant-loop-f
invariant-loop-f l = along_values (scope_in l.scope) (rows_of l.rows) l.k (drop l.f-index l.fs) ≡ along_values (scope_in l.scope) (rows_of l.rows) l.initial.k l.fs
