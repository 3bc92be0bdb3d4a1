use Rattle.std.proofs.Common.{◌≡◌, ◌++◌, map, take}
use Rattle.homeo_syntax.specs.SourceView.{plain_workload}
use Rattle.homeo_plan.specs.PlanView.{plain_clause}
use Rattle.homeo_print.specs.Treaties.{clauses_text}
use Rattle.homeo_print.proofs.TemplateSteps.{lists}
use Rattle.homeo_print.proofs.templates.push_clauses.Given as goal

abbrev pub invariant-loop-number : goal.invariant-loop-number
invariant-loop-number l =
    l.out.items ≡ l.fn.out.items ++ clauses_text (plain_workload l.w) (map plain_clause (take l.number l.clauses)) (lists (take l.number l.config.bounds.items))
