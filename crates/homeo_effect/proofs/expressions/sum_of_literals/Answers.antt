-- One more literal, and the first phrase that is none.
use Rattle.std.proofs.Common.{rules, ◌≡◌, ◌+◌, ◌+ℤ◌, true, w64, to_z, map, drop, refl, sym, ap, ◌∙◌, subst}
use Rattle.homeo_syntax.specs.LowView.{low_exprs, plain_lexpr}
use Rattle.homeo_meaning.specs.Small.{is_small}
use Rattle.homeo_meaning.proofs.Numbers.{kept_is}
use Rattle.homeo_split.specs.CanExec.{run_limit}
use Rattle.homeo_effect.specs.Localized.{literal_sum}
use Rattle.homeo_effect.specs.inner.Alone.{SumFits}
use Rattle.homeo_effect.proofs.LiteralSteps.{sum_step, sum_ends, sum_done}
use Rattle.homeo_effect.proofs.expressions.sum_of_literals.Goals as goal

pub plus-sum-requires : goal.plus-sum-requires
plus-sum-requires c =
    let step = sum_step c.args.terms.now c.loop-term.term-index c.term-item.result c.loop-term-test.true c.term-item.is _ c.in-Some.n c.in-Some.ensures c.loop-term.invariant.fits in
    let n = kept_is c.in-Some.n _ (search rules) refl in
    subst (λ v. is_small run_limit (to_z w64 c.loop-term.sum-bits +ℤ v) ≡ true) (sym n) step.small

pub returns-in-None : goal.returns-in-None
returns-in-None c =
    sum_ends c.args.terms.now c.loop-term.term-index c.term-item.result c.loop-term-test.true c.term-item.is _ c.in-None.ensures ∙ c.loop-term.invariant.left

pub loop-term-preserved : goal.loop-term-preserved
loop-term-preserved c =
    let step = sum_step c.args.terms.now c.loop-term.term-index c.term-item.result c.loop-term-test.true c.term-item.is _ c.in-Some.n c.in-Some.ensures c.loop-term.invariant.fits in
    let n = kept_is c.in-Some.n _ (search rules) refl in
    let total = kept_is c.plus-sum.result _ (search rules) (c.plus-sum.ensures ∙ ap (λ v. to_z w64 c.loop-term.sum-bits +ℤ v) n) in
    let rest = low_exprs (map plain_lexpr (drop (c.loop-term.term-index + 1) c.args.terms.now)) in
    record {
      fits = subst (λ v. SumFits v rest) (sym total) step.fits;
      left = ap (λ v. literal_sum v rest) total ∙ step.same ∙ c.loop-term.invariant.left;
    }

pub returns : goal.returns
returns c = sum_done _ c.args.terms.now c.loop-term.term-index c.loop-term-test.false ∙ c.loop-term.invariant.left
