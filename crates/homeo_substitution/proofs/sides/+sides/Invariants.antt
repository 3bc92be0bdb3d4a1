-- What is put into the expressions so far.
use Rattle.std.proofs.Common.{◌≡◌, map, take}
use Rattle.homeo_syntax.specs.LowView.{plain_lexpr}
use Rattle.homeo_substitution.specs.Bindings.{bound}
use Rattle.homeo_substitution.specs.Substitution.{substituted}
use Rattle.homeo_substitution.proofs.sides.+sides.Given as goal

abbrev pub invariant-each_side-loop-e : goal.invariant-each_side-loop-e
invariant-each_side-loop-e l = map plain_lexpr l.made.items ≡ map (substituted (bound l.put)) (map plain_lexpr (take l.e-index l.es))
