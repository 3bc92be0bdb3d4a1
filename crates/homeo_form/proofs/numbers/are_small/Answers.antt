use Rattle.std.proofs.Common.{rules, subst, sym, refl}
use Rattle.std.specs.Int.{w128}
use Rattle.std.proofs.lemmas.Int.{to_z-of_z}
use Rattle.homeo_meaning.specs.Small.{IsSmall}
use Rattle.homeo_plan.specs.Key.{definitions as plan_definitions}
use Rattle.homeo_plan.specs.Limit.{form_limit}
use Rattle.homeo_form.proofs.CheckedSteps.{each_more, each_here, each_all}
use Rattle.homeo_form.proofs.numbers.are_small.Goals as goal

pub loop-term-init : goal.loop-term-init
unfolding plan_definitions
loop-term-init c = tt

pub returns-then-not-is_small_number : goal.returns-then-not-is_small_number
returns-then-not-is_small_number c = (
  λ h. absurd cc,
  λ h. c.if-not-is_small_number.ensures.1
      (subst (IsSmall form_limit) (sym (to_z-of_z w128 _ (search rules))) (each_here (λ t. IsSmall form_limit t.factor) c.args.terms.now c.loop-term.term-index _ c.loop-term-test.true h)),
)

pub loop-term-preserved : goal.loop-term-preserved
loop-term-preserved c =
    each_more (λ t. IsSmall form_limit t.factor) c.args.terms.now c.loop-term.term-index _ c.loop-term-test.true c.loop-term.invariant
    (subst (IsSmall form_limit) (to_z-of_z w128 _ (search rules)) (c.if-not-is_small_number.ensures.0 refl))

pub returns : goal.returns
returns c = (
  λ h. each_all (λ t. IsSmall form_limit t.factor) c.args.terms.now c.loop-term.term-index c.loop-term-test.false c.loop-term.invariant,
  λ h. refl,
)
