use Rattle.std.proofs.Common.{◌≡◌, true, take}
use Rattle.std.specs.List.{list_all}
use Rattle.homeo_meaning.specs.NumberRules.{is_weightless}
use Rattle.homeo_rules.proofs.rules.site_weights.are_weightless.Given as goal

abbrev pub invariant-loop-n : goal.invariant-loop-n
invariant-loop-n l = list_all is_weightless (take l.n-index l.weights) ≡ true
