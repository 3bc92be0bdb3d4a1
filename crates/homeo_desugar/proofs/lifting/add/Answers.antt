-- The sum has two terms.
use Rattle.std.proofs.Common.{map, [], ◌∷◌, ◌++◌, ap, ◌∙◌}
use Rattle.homeo_syntax.specs.Key.{definitions as syntax_definitions}
use Rattle.homeo_syntax.specs.Low as L
use Rattle.homeo_syntax.specs.LowView.{low_exprs, plain_lexpr}
use Rattle.homeo_syntax.specs.declared.low.Temp.TheVariants as temp
use Rattle.homeo_syntax.proofs.LowViews.{low_Assign, low_Sum}
use Rattle.homeo_desugar.specs.inner.Key.{definitions}
use Rattle.homeo_desugar.proofs.lifting.add.Goals as goal

pub returns : goal.returns
unfolding definitions syntax_definitions
returns c =
    low_Assign _ _
    ∙ ap (L.Assign (temp.Fresh c.args.total)) (
    low_Sum c.push-2.new.self
    ∙ ap (λ l. L.Sum (low_exprs (map plain_lexpr l.items))) c.in_ok-push-2.ensures.ok
    ∙ ap (λ l. L.Sum (low_exprs (map plain_lexpr (l.items ++ c.args.term ∷ [])))) c.in_ok-push.ensures.ok
    ∙ ap (λ l. L.Sum (low_exprs (map plain_lexpr ((l.items ++ c.fresh.result ∷ []) ++ c.args.term ∷ [])))) c.in_ok-terms.ensures
    ∙ ap (λ e. L.Sum (L.MoreExpr e (L.MoreExpr (plain_lexpr c.args.term) L.NoExpr))) c.fresh.ensures
    )
