-- The deltas so far, and those of the terms that are left.
use Rattle.std.proofs.Common.{◌≡◌, ◌++◌, drop}
use Rattle.homeo_plan.specs.Linear.{deltas_of}
use Rattle.homeo_form.proofs.deltas.push_deltas_of.Given as goal

abbrev pub invariant-loop-term : goal.invariant-loop-term
invariant-loop-term l = l.deltas.items ++ deltas_of (drop l.term-index l.terms) ≡ l.initial.deltas.items ++ deltas_of l.terms
