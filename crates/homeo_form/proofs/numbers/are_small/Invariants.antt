use Rattle.std.proofs.Common.{take}
use Rattle.homeo_meaning.specs.Small.{IsSmall}
use Rattle.homeo_plan.specs.Each.{Each}
use Rattle.homeo_plan.specs.Limit.{form_limit}
use Rattle.homeo_form.proofs.numbers.are_small.Given as goal

abbrev pub invariant-loop-term : goal.invariant-loop-term
invariant-loop-term l = Each (λ t. IsSmall form_limit t.factor) (take l.term-index l.terms)
