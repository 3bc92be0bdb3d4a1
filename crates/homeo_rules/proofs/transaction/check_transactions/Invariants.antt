use Rattle.std.proofs.Common.{◌≡◌, drop}
use Rattle.homeo_rules.specs.inner.Callers.{transaction_faults_of}
use Rattle.homeo_rules.specs.inner.Listwise.{along_all}
use Rattle.homeo_rules.specs.inner.Scopes.{scope_in}
use Rattle.homeo_rules.specs.inner.Within.{AreNamed}
use Rattle.homeo_rules.proofs.transaction.check_transactions.Given as goal

abbrev pub invariant-loop-t : goal.invariant-loop-t
invariant-loop-t l = record {
  named : AreNamed l.names (drop l.t-index l.ts);
  so_far : along_all (transaction_faults_of (scope_in l.scope)) l.best (drop l.t-index l.ts) ≡ along_all (transaction_faults_of (scope_in l.scope)) l.initial.best l.ts;
}
