-- The clauses so far are made.
use Rattle.std.proofs.Common.{◌≡◌, map, take}
use Rattle.homeo_plan.specs.PlanView.{plain_clause}
use Rattle.homeo_outline.specs.ObjectPlan.{clauses_with}
use Rattle.homeo_outline.proofs.plan.whole_template.Given as goal

abbrev pub invariant-loop-number : goal.invariant-loop-number
invariant-loop-number l = map plain_clause l.clauses.items ≡ clauses_with (map (λ t. t.items) (take l.number l.terms)) l.slacks
