use Rattle.std.proofs.Common.{◌≡◌, drop}
use Rattle.homeo_rules.specs.inner.Along.{along_commands}
use Rattle.homeo_rules.specs.inner.InForce.{rows_of}
use Rattle.homeo_rules.specs.inner.Scopes.{scope_in}
use Rattle.homeo_rules.proofs.walk.+commands.Given as goal

abbrev pub invariant-walk_commands-loop-c : goal.invariant-walk_commands-loop-c
invariant-walk_commands-loop-c l = along_commands (scope_in l.scope) (rows_of l.rows) l.k (drop l.c-index l.cs) ≡ along_commands (scope_in l.scope) (rows_of l.rows) l.initial.k l.cs
