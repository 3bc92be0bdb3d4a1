-- One more literal, and the first phrase that is none.
use Rattle.std.proofs.Common.{rules, ◌≡◌, ◌+◌, ◌*ℤ◌, true, w64, to_z, map, drop, refl, sym, ap, ◌∙◌, subst}
use Rattle.homeo_syntax.specs.LowView.{low_exprs, plain_lexpr}
use Rattle.homeo_meaning.specs.Small.{is_small}
use Rattle.homeo_meaning.proofs.Numbers.{kept_is}
use Rattle.homeo_split.specs.CanExec.{run_limit}
use Rattle.homeo_effect.specs.Localized.{literal_product}
use Rattle.homeo_effect.specs.inner.Alone.{ProductFits}
use Rattle.homeo_effect.proofs.LiteralSteps.{product_step, product_ends, product_done}
use Rattle.homeo_effect.proofs.expressions.product_of_literals.Goals as goal

pub times-product-requires : goal.times-product-requires
times-product-requires c =
    let step = product_step c.args.factors.now c.loop-factor.factor-index c.factor-item.result c.loop-factor-test.true c.factor-item.is _ c.in-Some.n c.in-Some.ensures c.loop-factor.invariant.fits in
    let n = kept_is c.in-Some.n _ (search rules) refl in
    subst (λ v. is_small run_limit (to_z w64 c.loop-factor.product-bits *ℤ v) ≡ true) (sym n) step.small

pub returns-in-None : goal.returns-in-None
returns-in-None c =
    product_ends c.args.factors.now c.loop-factor.factor-index c.factor-item.result c.loop-factor-test.true c.factor-item.is _ c.in-None.ensures ∙ c.loop-factor.invariant.left

pub loop-factor-preserved : goal.loop-factor-preserved
loop-factor-preserved c =
    let step = product_step c.args.factors.now c.loop-factor.factor-index c.factor-item.result c.loop-factor-test.true c.factor-item.is _ c.in-Some.n c.in-Some.ensures c.loop-factor.invariant.fits in
    let n = kept_is c.in-Some.n _ (search rules) refl in
    let total = kept_is c.times-product.result _ (search rules) (c.times-product.ensures ∙ ap (λ v. to_z w64 c.loop-factor.product-bits *ℤ v) n) in
    let rest = low_exprs (map plain_lexpr (drop (c.loop-factor.factor-index + 1) c.args.factors.now)) in
    record {
      fits = subst (λ v. ProductFits v rest) (sym total) step.fits;
      left = ap (λ v. literal_product v rest) total ∙ step.same ∙ c.loop-factor.invariant.left;
    }

pub returns : goal.returns
returns c = product_done _ c.args.factors.now c.loop-factor.factor-index c.loop-factor-test.false ∙ c.loop-factor.invariant.left
