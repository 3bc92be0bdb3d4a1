use Rattle.std.proofs.Common.{◌≡◌, drop}
use Rattle.homeo_rules.specs.inner.Callers.{client_faults_of}
use Rattle.homeo_rules.specs.inner.Listwise.{along_all}
use Rattle.homeo_rules.specs.inner.Scopes.{scope_in}
use Rattle.homeo_rules.proofs.rules.calls.check_clients.Given as goal

abbrev pub invariant-loop-c : goal.invariant-loop-c
invariant-loop-c l = along_all (client_faults_of l.sites (scope_in l.scope) l.ts) l.best (drop l.c-index l.cs) ≡ along_all (client_faults_of l.sites (scope_in l.scope) l.ts) l.initial.best l.cs
