-- Two tests stand behind the others.
use Rattle.std.proofs.Common.{map, rules, w64, ap, ◌∙◌, ◌∷◌, [], ◌++◌}
use Rattle.std.proofs.lemmas.Int.{to_z-of_z}
use Rattle.homeo_syntax.specs.LowView.{low_tests, plain_ltest, plain_lexpr}
use Rattle.homeo_syntax.specs.Low.{Comparison}
use Rattle.homeo_syntax.specs.declared.low.LExpr as code
use Rattle.homeo_syntax.specs.declared.phrase.Compare.TheVariants as compare
use Rattle.homeo_syntax.proofs.LowViews.{low_Literal}
use Rattle.homeo_desugar.specs.inner.Key.{definitions}
use Rattle.homeo_context.specs.Slots.{plain_spot}
use Rattle.homeo_desugar.proofs.Makings.{within_push}
use Rattle.homeo_desugar.proofs.making.push_within.Goals as goal

pub returns : goal.returns
unfolding definitions
returns c =
    let above = c.at_most-above.ensures ∙ (λ i. Comparison compare.LessEqual ((ap plain_lexpr (ap code.Literal (to_z-of_z w64 c.args.bounds.lo (search rules))) ∙ low_Literal c.args.bounds.lo) i) (c.in_ok-copy.ensures i)) in
    let below = c.at_most-below.ensures ∙ (λ i. Comparison compare.LessEqual (c.in_ok-copy-2.ensures i) ((ap plain_lexpr (ap code.Literal (to_z-of_z w64 c.args.bounds.hi (search rules))) ∙ low_Literal c.args.bounds.hi) i)) in
    ap (λ l. low_tests (map plain_ltest l.items)) c.in_ok-push-2.ensures.ok
    ∙ ap (λ l. low_tests (map plain_ltest (l.items ++ c.at_most-below.result ∷ []))) c.in_ok-push.ensures.ok
    ∙ within_push c.args.tests.now.items c.at_most-above.result c.at_most-below.result (plain_spot c.args.bounds) (plain_lexpr c.args.value.now) above below
