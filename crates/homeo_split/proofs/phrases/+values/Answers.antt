-- Negations, and one more term or factor.
use Rattle.std.proofs.Common.{rules, ◌≡◌, ◌+ℤ◌, ◌*ℤ◌, true, w64, to_z, sym, ap, ◌∙◌, subst}
use Rattle.homeo_syntax.specs.LowView.{plain_lexpr}
use Rattle.homeo_syntax.specs.declared.low.LExpr.{the_lemmas}
use Rattle.homeo_syntax.proofs.LowViews.{low_Neg}
use Rattle.homeo_split.specs.CanExec.{run_limit}
use Rattle.homeo_meaning.specs.LowMeaning.{value}
use Rattle.homeo_meaning.specs.Small.{is_small}
use Rattle.homeo_split.proofs.Equations.{value_Neg}
use Rattle.homeo_meaning.proofs.Numbers.{kept_is}
use Rattle.homeo_split.proofs.Steps.{sums, products, step, step_next, stop}
use Rattle.homeo_split.proofs.phrases.+values.Goals as goal

pub value-returns-in-Neg : goal.value-returns-in-Neg
value-returns-in-Neg g t c =
    let s = g.S.Reads.values c.args.state.now in
    kept_is c.negation.result _ (search rules) c.negation.ensures
    ∙ sym (ap (λ e. value (plain_lexpr e) s) c.in-Neg.is ∙ ap (λ e. value e s) (low_Neg c.in-Neg.e) ∙ value_Neg s (plain_lexpr c.in-Neg.e.value))

pub sum-value-requires : goal.sum-value-requires
sum-value-requires g t c =
    λ κs lives. (search (rules, the_lemmas), (lives, (step sums c.args.es.now c.loop-e.e-index c.e-item.result c.loop-e-test.true c.e-item.is c.loop-e.invariant.fits).first))

pub sum-plus-total-requires : goal.sum-plus-total-requires
sum-plus-total-requires g t c =
    let k = step sums c.args.es.now c.loop-e.e-index c.e-item.result c.loop-e-test.true c.e-item.is c.loop-e.invariant.fits in
    let e = kept_is c.value.result _ (search rules) c.value.ensures in
    subst (λ v. is_small run_limit (to_z w64 c.loop-e.total-bits +ℤ v) ≡ true) (sym e) k.small

pub sum-loop-e-preserved : goal.sum-loop-e-preserved
sum-loop-e-preserved g t c =
    let k = step sums c.args.es.now c.loop-e.e-index c.e-item.result c.loop-e-test.true c.e-item.is c.loop-e.invariant.fits in
    let e = kept_is c.value.result _ (search rules) c.value.ensures in
    let n = kept_is c.plus-total.result _ (search rules) (c.plus-total.ensures ∙ ap (λ v. to_z w64 c.loop-e.total-bits +ℤ v) e) in
    let q = step_next sums k n in
    record { fits = q.0; left = q.1 ∙ c.loop-e.invariant.left }

pub sum-returns : goal.sum-returns
sum-returns g t c = stop sums _ _ c.args.es.now c.loop-e.e-index c.loop-e-test.false ∙ c.loop-e.invariant.left

pub product-value-requires : goal.product-value-requires
product-value-requires g t c =
    λ κs lives. (search (rules, the_lemmas), (lives, (step products c.args.es.now c.loop-e.e-index c.e-item.result c.loop-e-test.true c.e-item.is c.loop-e.invariant.fits).first))

pub product-times-total-requires : goal.product-times-total-requires
product-times-total-requires g t c =
    let k = step products c.args.es.now c.loop-e.e-index c.e-item.result c.loop-e-test.true c.e-item.is c.loop-e.invariant.fits in
    let e = kept_is c.value.result _ (search rules) c.value.ensures in
    subst (λ v. is_small run_limit (to_z w64 c.loop-e.total-bits *ℤ v) ≡ true) (sym e) k.small

pub product-loop-e-preserved : goal.product-loop-e-preserved
product-loop-e-preserved g t c =
    let k = step products c.args.es.now c.loop-e.e-index c.e-item.result c.loop-e-test.true c.e-item.is c.loop-e.invariant.fits in
    let e = kept_is c.value.result _ (search rules) c.value.ensures in
    let n = kept_is c.times-total.result _ (search rules) (c.times-total.ensures ∙ ap (λ v. to_z w64 c.loop-e.total-bits *ℤ v) e) in
    let q = step_next products k n in
    record { fits = q.0; left = q.1 ∙ c.loop-e.invariant.left }

pub product-returns : goal.product-returns
product-returns g t c = stop products _ _ c.args.es.now c.loop-e.e-index c.loop-e-test.false ∙ c.loop-e.invariant.left
