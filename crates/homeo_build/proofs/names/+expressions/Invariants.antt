-- The objects of the expressions so far.
use Rattle.std.proofs.Common.{◌≡◌, ◌++◌, take}
use Rattle.std.specs.List.{flat_map}
use Rattle.homeo_syntax.specs.LowView.{plain_lexpr}
use Rattle.homeo_follow.specs.Named.{named_in_expr}
use Rattle.homeo_build.proofs.names.+expressions.Given as goal

abbrev pub invariant-push_in_exprs-loop-e : goal.invariant-push_in_exprs-loop-e
invariant-push_in_exprs-loop-e l =
    l.names.items ≡ l.initial.names.items ++ flat_map (λ e. named_in_expr (plain_lexpr e)) (take l.e-index l.es)
