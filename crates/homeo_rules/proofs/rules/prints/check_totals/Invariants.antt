use Rattle.std.proofs.Common.{◌≡◌, drop}
use Rattle.homeo_rules.specs.inner.Printing.{print_all}
use Rattle.homeo_rules.specs.inner.Scopes.{scope_in}
use Rattle.homeo_rules.proofs.rules.prints.check_totals.Given as goal

abbrev pub invariant-loop-call : goal.invariant-loop-call
invariant-loop-call l = print_all (scope_in l.scope) l.counts (record { total = l.total; best = l.best }) (drop l.call-index l.calls) ≡ print_all (scope_in l.scope) l.counts (record { total = 0; best = l.initial.best }) l.calls
