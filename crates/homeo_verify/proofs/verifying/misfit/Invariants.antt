-- The clauses so far fit.
use Rattle.std.proofs.Common.{◌≡◌, map, length}
use Rattle.homeo_plan.specs.PlanView.{plain_clause}
use Rattle.homeo_certificate.specs.Verdict.{misfits}
use Rattle.homeo_verify.proofs.verifying.misfit.Given as goal

abbrev pub invariant-loop-clause : goal.invariant-loop-clause
invariant-loop-clause l =
    misfits l.number (map plain_clause l.clauses) (map (λ b. b.items) l.bounds)
    ≡ misfits 0 (map plain_clause l.initial.clauses) (map (λ b. b.items) l.initial.bounds)

abbrev pub decreases-loop-clause : goal.decreases-loop-clause
decreases-loop-clause l = length l.clauses
