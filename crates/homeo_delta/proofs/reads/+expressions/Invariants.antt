use Rattle.std.proofs.Common.{◌≡◌, map, take}
use Rattle.homeo_syntax.specs.LowView.{plain_lexpr}
use Rattle.homeo_plan.specs.Split.{shift_expr}
use Rattle.homeo_delta.proofs.reads.+expressions.Given as goal

abbrev pub invariant-shift_exprs-loop-e : goal.invariant-shift_exprs-loop-e
invariant-shift_exprs-loop-e l = map plain_lexpr l.shifted.items ≡ map (shift_expr l.sites) (map plain_lexpr (take l.e-index l.es))
