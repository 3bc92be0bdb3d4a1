use Rattle.std.proofs.Common.{◌≡◌, drop}
use Rattle.homeo_rules.specs.inner.Params.{enter_params}
use Rattle.homeo_rules.specs.inner.Scopes.{scope_in}
use Rattle.homeo_rules.proofs.transaction.enter_params.Given as goal

abbrev pub invariant-loop-d : goal.invariant-loop-d
invariant-loop-d l = enter_params (scope_in l.scope) l.k (drop l.d-index l.ds) ≡ enter_params (scope_in l.scope) l.initial.k l.ds
