-- The terms so far are added.
use Rattle.std.proofs.Common.{[]}
use Rattle.homeo_plan.specs.Linear.{add_terms}
use Rattle.homeo_form.proofs.Adding.{AddStep}
use Rattle.homeo_form.proofs.terms.collected.Given as goal

abbrev pub invariant-loop-term : goal.invariant-loop-term
invariant-loop-term l = AddStep l.terms l.sums.items (add_terms l.terms []) l.term-index
