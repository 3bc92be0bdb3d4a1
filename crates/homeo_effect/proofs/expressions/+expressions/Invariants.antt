-- The phrases so far, at the site.
use Rattle.std.proofs.Common.{◌≡◌, map, take}
use Rattle.homeo_syntax.specs.LowView.{plain_lexpr}
use Rattle.homeo_meaning.specs.Serial.{values_of}
use Rattle.homeo_effect.specs.Localized.{local_expr}
use Rattle.homeo_effect.proofs.expressions.+expressions.Given as goal

abbrev pub invariant-local_exprs-loop-e : goal.invariant-local_exprs-loop-e
invariant-local_exprs-loop-e l =
    map plain_lexpr l.local.items ≡ map (local_expr (values_of l.base) l.site) (map plain_lexpr (take l.e-index l.es))
