-- The terms so far, and the rest multiplied, are all of them multiplied.
use Rattle.std.proofs.Common.{◌≡◌, drop}
use Rattle.homeo_plan.specs.Linear.{scale_terms}
use Rattle.homeo_form.proofs.Adding.{scaling_from}
use Rattle.homeo_form.proofs.terms.scaled.Given as goal

abbrev pub invariant-loop-term : goal.invariant-loop-term
invariant-loop-term l = scaling_from l.factor l.scaled.items (drop l.term-index l.terms) ≡ scale_terms l.factor l.terms
