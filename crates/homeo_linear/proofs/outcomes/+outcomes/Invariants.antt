-- The tests so far pass.
use Rattle.homeo_form.specs.Standing.{forms_of}
use Rattle.homeo_linear.proofs.Keeping.{PassedSoFar}
use Rattle.homeo_linear.proofs.outcomes.+outcomes.Given as goal

abbrev pub invariant-failing-loop-place : goal.invariant-failing-loop-place
invariant-failing-loop-place l = PassedSoFar (forms_of l.standing) l.ts l.place
