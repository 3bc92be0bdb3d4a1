-- Comparisons, and one more test of a condition.
use Rattle.std.proofs.Common.{rules, sym, ap, ◌∙◌}
use Rattle.homeo_syntax.specs.declared.low.LTest.{the_lemmas}
use Rattle.homeo_syntax.specs.LowView.{plain_lexpr, plain_ltest}
use Rattle.homeo_syntax.proofs.LowViews.{low_Compare}
use Rattle.homeo_meaning.specs.Meaning.{compared}
use Rattle.homeo_meaning.specs.LowMeaning.{passes}
use Rattle.homeo_split.proofs.Equations.{passes_Comparison}
use Rattle.homeo_meaning.proofs.Numbers.{kept_is}
use Rattle.homeo_split.proofs.Steps.{test_step}
use Rattle.homeo_split.proofs.phrases.+conditions.Goals as goal

pub passes-returns-in-Compare : goal.passes-returns-in-Compare
passes-returns-in-Compare g t c =
    let s = g.S.Reads.values c.args.state.now in
    let op = c.in-Compare.op in
    let a = c.in-Compare.left in
    let b = c.in-Compare.right in
    let left = kept_is c.value-left.result _ (search rules) c.value-left.ensures in
    let right = kept_is c.value-right.result _ (search rules) c.value-right.ensures in
    c.compared.ensures
    ∙ (λ i. compared op (left i) (right i))
    ∙ sym (ap (λ t. passes (plain_ltest t) s) c.in-Compare.is ∙ ap (λ t. passes t s) (low_Compare op a b) ∙ passes_Comparison s op (plain_lexpr a) (plain_lexpr b))

pub all_pass-passes-requires : goal.all_pass-passes-requires
all_pass-passes-requires g t c =
    λ κs lives. (search (rules, the_lemmas), (lives, (test_step c.args.ts.now c.loop-t.t-index c.t-item.result c.loop-t-test.true c.t-item.is c.loop-t.invariant.fits).first))
