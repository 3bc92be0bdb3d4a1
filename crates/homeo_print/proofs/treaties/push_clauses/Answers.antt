-- One clause more.
use Rattle.std.proofs.Common.{append_assoc, append-nil, ◌<◌, ◌≤◌, ◌++◌, List, ℕ, length, sym, ap, subst, ◌∙◌}
use Rattle.std.proofs.lemmas.List.{length-map}
use Rattle.homeo_syntax.specs.Listed.{Listed}
use Rattle.homeo_syntax.specs.SourceView.{plain_workload}
use Rattle.homeo_plan.specs.declared.forms.Term.{Term}
use Rattle.homeo_outline.specs.Outlined.{Outlined}
use Rattle.homeo_print.specs.Treaties.{clause_text, clauses_text}
use Rattle.homeo_print.specs.inner.Clauses.{clause_in, bounds_in, first_clauses, first_bounds}
use Rattle.homeo_print.proofs.ClauseLines.{no_line, line_more, all_lines}
use Rattle.homeo_print.proofs.treaties.push_clauses.Goals as goal

pub loop-clause-init : goal.loop-clause-init
loop-clause-init c =
    let out = c.args.out.now.items in
    sym (append-nil out) ∙ ap (λ l. out ++ l) (sym (no_line c.args.plan.now c.requires.bounds (plain_workload c.args.w.now)))

pub loop-clause-preserved : goal.loop-clause-preserved
loop-clause-preserved c =
    let w = plain_workload c.args.w.now in
    let p = c.args.plan.now in
    let n = c.loop-clause.clause in
    let out = c.args.out.now.items in
    let before : List ℕ = clauses_text w (first_clauses p n) (first_bounds p n) in
    let line : List ℕ = clause_text w n (clause_in p n) (bounds_in p n) in
    let all = c.terms-clause-end.ensures ∙ ap (λ (o : Outlined). o.terms) c.deref.ensures in
    let lt = subst (λ m. n < m) (sym (length-map c.terms-clause-end.result.now (λ (l : Listed Term). l.items)) ∙ ap length all) c.loop-clause-test.true in
    c.in_ok-push_clause.ensures ∙ ap (λ l. l ++ line) c.loop-clause.invariant ∙ append_assoc out before line
    ∙ ap (λ l. out ++ l) (sym (line_more p c.requires.bounds w n lt))

pub returns : goal.returns
returns c =
    let w = plain_workload c.args.w.now in
    let p = c.args.plan.now in
    let n = c.loop-clause.clause in
    let all = c.terms-clause-end.ensures ∙ ap (λ (o : Outlined). o.terms) c.deref.ensures in
    let le = subst (λ m. m ≤ n) (sym (length-map c.terms-clause-end.result.now (λ (l : Listed Term). l.items)) ∙ ap length all) c.loop-clause-test.false in
    c.loop-clause.invariant ∙ ap (λ l. c.args.out.now.items ++ l) (all_lines p c.requires.bounds w n le)
