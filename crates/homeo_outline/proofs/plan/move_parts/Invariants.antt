-- The terms and slacks of the clauses so far are moved.
use Rattle.std.proofs.Common.{◌≡◌, ◌++◌, map}
use Rattle.homeo_plan.specs.declared.templates.Clause.{Clause}
use Rattle.homeo_outline.proofs.plan.move_parts.Given as goal

abbrev pub invariant-loop-clause : goal.invariant-loop-clause
invariant-loop-clause l =
    record {
      terms : l.terms.items ≡ l.initial.terms.items ++ map (λ (c : Clause). c.terms) l.yielded;
      slacks : l.slacks.items ≡ l.initial.slacks.items ++ map (λ (c : Clause). c.slack) l.yielded;
    }
