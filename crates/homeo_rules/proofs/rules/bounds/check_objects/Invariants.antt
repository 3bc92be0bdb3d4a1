use Rattle.std.proofs.Common.{◌≡◌, drop}
use Rattle.homeo_meaning.specs.NumberRules.{object_faults}
use Rattle.homeo_rules.specs.inner.Listwise.{along_all}
use Rattle.homeo_rules.proofs.rules.bounds.check_objects.Given as goal

abbrev pub invariant-loop-d : goal.invariant-loop-d
invariant-loop-d l = along_all object_faults l.best (drop l.d-index l.ds) ≡ along_all object_faults l.initial.best l.ds
