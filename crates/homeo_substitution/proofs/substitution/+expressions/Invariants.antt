-- What is put into the expressions so far.
use Rattle.std.proofs.Common.{◌≡◌, map, take}
use Rattle.homeo_syntax.specs.LowView.{plain_lexpr}
use Rattle.homeo_substitution.specs.Bindings.{bound}
use Rattle.homeo_substitution.specs.Shared.{plain_shared}
use Rattle.homeo_substitution.specs.Substitution.{substituted}
use Rattle.homeo_substitution.proofs.substitution.+expressions.Given as goal

abbrev pub invariant-each_expression-loop-e : goal.invariant-each_expression-loop-e
invariant-each_expression-loop-e l =
    map plain_shared l.made.items ≡ map (substituted (bound l.put)) (map plain_lexpr (take l.e-index l.es))
