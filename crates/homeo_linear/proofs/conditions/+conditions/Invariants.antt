-- The atoms of the tests so far stand behind those that were there.
use Rattle.std.proofs.Common.{map}
use Rattle.homeo_plan.specs.PlanView.{plain_atom}
use Rattle.homeo_form.specs.Standing.{forms_of}
use Rattle.homeo_linear.proofs.Keeping.{AskedSoFar}
use Rattle.homeo_linear.proofs.conditions.+conditions.Given as goal

abbrev pub invariant-tests-loop-t : goal.invariant-tests-loop-t
invariant-tests-loop-t l = AskedSoFar (forms_of l.standing) l.ts l.t-index (map plain_atom l.initial.atoms.items) (map plain_atom l.atoms.items)
