-- One term more, and the end.
use Rattle.std.proofs.Common.{IsTrue, subst, refl}
use Rattle.homeo_meaning.specs.Small.{IsSmall}
use Rattle.homeo_plan.specs.Limit.{form_limit}
use Rattle.homeo_form.proofs.Adding.{small_next}
use Rattle.homeo_form.proofs.RunningSums.{factor_from, factors_more, factors_end}
use Rattle.homeo_form.proofs.form.running.add_factors.Goals as goal

pub add_factor-requires-clause-factor : goal.add_factor-requires-clause-factor
add_factor-requires-clause-factor c =
    small_next c.args.terms.now c.loop-term.term-index _ c.loop-term-test.true c.requires.terms_small

pub returns-then-not-branch-clause-small : goal.returns-then-not-branch-clause-small
returns-then-not-branch-clause-small c = (
  λ h. absurd cc,
  λ h. subst IsTrue c.if-not-branch.true
      (c.in_ok-add_factor.ensures.small.1
      (factor_from c.args.changed.now c.args.first.now c.args.terms.now c.loop-term.term-index c.loop-term.changed c.add_factor.new.changed _ _
      c.loop-term-test.true refl c.loop-term.invariant c.in_ok-add_factor.ensures.sums h)),
)

pub loop-term-preserved : goal.loop-term-preserved
loop-term-preserved c =
    factors_more c.args.changed.now c.args.first.now c.args.terms.now c.loop-term.term-index c.loop-term.changed c.add_factor.new.changed _ _
    c.loop-term-test.true refl c.loop-term.invariant c.in_ok-add_factor.ensures.sums (c.in_ok-add_factor.ensures.small.0 c.if-not-branch.false)

pub returns-clause-sums : goal.returns-clause-sums
returns-clause-sums c = λ h.
    factors_end c.args.changed.now c.args.first.now c.args.terms.now c.loop-term.term-index c.loop-term.changed c.loop-term-test.false c.loop-term.invariant

pub returns-clause-small : goal.returns-clause-small
returns-clause-small c = (
  λ h d. subst (IsSmall form_limit)
      (factors_end c.args.changed.now c.args.first.now c.args.terms.now c.loop-term.term-index c.loop-term.changed c.loop-term-test.false c.loop-term.invariant d)
      (c.loop-term.invariant.small d),
  λ h. refl,
)
