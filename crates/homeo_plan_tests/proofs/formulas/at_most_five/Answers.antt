-- The condition is that of the definition.
use Rattle.std.proofs.Common.{pos, map, ap, ◌∙◌}
use Rattle.std.proofs.lemmas.Result.{IfOk-at_ok}
use Rattle.homeo_syntax.specs.Key.{definitions as syntax_definitions}
use Rattle.homeo_syntax.specs.Low as l
use Rattle.homeo_syntax.specs.LowView.{low_tests, plain_ltest}
use Rattle.homeo_syntax.specs.declared.phrase.Compare.TheVariants.{LessEqual}
use Rattle.homeo_syntax.specs.declared.low.LExpr.{Literal}
use Rattle.homeo_syntax.proofs.LowViews.{low_Literal, low_Compare, low_conjunction_of}
use Rattle.homeo_plan_tests.proofs.Lists.{listed}
use Rattle.homeo_plan_tests.proofs.formulas.at_most_five.Goals as goal

pub returns : goal.returns
unfolding syntax_definitions
returns g c =
    let held = listed c.from_vec.result c.expect.result.items _ c.from_vec.ensures (IfOk-at_ok _ c.expect.ensures c.vec.ensures.items) in
    let sides = low_Compare LessEqual c.object_sum.result (Literal (pos 5)) in
    low_conjunction_of c.from_vec.result
    ∙ ap (λ ts. low_tests (map plain_ltest ts)) held
    ∙ ap (λ t. l.MoreTest t l.NoTest) sides
    ∙ (λ i. l.MoreTest (l.Comparison LessEqual (c.object_sum.ensures i) (low_Literal (pos 5) i)) l.NoTest)
