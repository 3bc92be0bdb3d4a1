use Rattle.std.proofs.Common.{◌++◌, List, ℕ, map, take, get_or, append_assoc, sym, ap, ◌∙◌}
use Rattle.homeo_syntax.specs.SourceView.{plain_workload}
use Rattle.homeo_plan.specs.PlanView.{plain_clause}
use Rattle.homeo_print.specs.Treaties.{clause_text, clauses_text}
use Rattle.homeo_print.proofs.TemplateSteps.{lists, clauses_more}
use Rattle.homeo_print.proofs.templates.push_clauses.Goals as goal

pub loop-number-preserved : goal.loop-number-preserved
loop-number-preserved c =
    let w = plain_workload c.args.w.now in
    let i = c.loop-number.number in
    let clauses = c.args.clauses.now in
    let all = c.args.config.now.bounds.items in
    let clause = c.index-clauses-number.result in
    let bounds = c.index-bounds-number.result in
    let old = c.args.out.now.items in
    let before : List ℕ = clauses_text w (map plain_clause (take i clauses)) (lists (take i all)) in
    let line : List ℕ = clause_text w i (plain_clause clause) bounds.items in
    c.in_ok-push_clause.ensures
    ∙ ap (λ l. c.loop-number.out.items ++ clause_text w i (plain_clause clause) l) c.as_slice-own.ensures
    ∙ ap (λ l. l ++ line) c.loop-number.invariant ∙ append_assoc old before line
    ∙ ap (λ l. old ++ l) (sym (clauses_more w clauses all i clause bounds c.requires.bounds c.loop-number-test.true c.index-clauses-number.is (c.index-bounds-number.is ∙ ap (λ l. get_or l i bounds) c.as_slice-bounds.ensures)))
