-- The factors with those of the terms so far.
use Rattle.homeo_form.proofs.RunningSums.{FactorsSoFar}
use Rattle.homeo_form.proofs.form.running.add_factors.Given as goal

abbrev pub invariant-loop-term : goal.invariant-loop-term
invariant-loop-term l = FactorsSoFar l.initial.changed l.first l.terms l.term-index l.changed
