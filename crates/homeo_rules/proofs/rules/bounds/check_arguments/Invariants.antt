use Rattle.std.proofs.Common.{◌≡◌, drop}
use Rattle.homeo_rules.specs.inner.Listwise.{along_arguments}
use Rattle.homeo_rules.proofs.rules.bounds.check_arguments.Given as goal

abbrev pub invariant-loop-i : goal.invariant-loop-i
invariant-loop-i l = along_arguments l.best l.i (drop l.i l.ds) l.args ≡ along_arguments l.initial.best 0 l.ds l.args
