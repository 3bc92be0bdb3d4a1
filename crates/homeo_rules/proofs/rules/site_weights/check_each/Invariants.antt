use Rattle.std.proofs.Common.{◌≡◌, drop}
use Rattle.homeo_meaning.specs.NumberRules.{too_heavy}
use Rattle.homeo_rules.specs.inner.Listwise.{along_all}
use Rattle.homeo_rules.proofs.rules.site_weights.check_each.Given as goal

abbrev pub invariant-loop-n : goal.invariant-loop-n
invariant-loop-n l = along_all too_heavy l.best (drop l.n-index l.weights) ≡ along_all too_heavy l.initial.best l.weights
