use Rattle.std.proofs.Common.{◌≡◌, drop}
use Rattle.homeo_rules.specs.inner.Listwise.{along_all}
use Rattle.homeo_rules.specs.inner.Relations.{value_field}
use Rattle.homeo_rules.specs.inner.Scopes.{scope_in}
use Rattle.homeo_rules.proofs.rules.fields.check_fields.Given as goal

abbrev pub invariant-loop-f : goal.invariant-loop-f
invariant-loop-f l = along_all (value_field (scope_in l.scope) l.relation) l.best (drop l.f-index l.fields) ≡ along_all (value_field (scope_in l.scope) l.relation) l.initial.best l.fields
