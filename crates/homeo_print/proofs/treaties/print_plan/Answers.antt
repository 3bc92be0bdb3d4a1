-- The clauses and freezes are those of the plan's template.
use Rattle.std.proofs.Common.{◌≡◌, ◌++◌, List, ℕ, length, sym, ap, ap₂, subst, ◌∙◌}
use Rattle.std.specs.Prelude.{codes}
use Rattle.std.specs.Result.{OnOk}
use Rattle.std.proofs.lemmas.List.{length-map}
use Rattle.homeo_syntax.specs.Listed.{Listed}
use Rattle.homeo_syntax.specs.SourceView.{plain_workload}
use Rattle.homeo_plan.specs.declared.forms.Delta.{Delta}
use Rattle.homeo_plan.specs.declared.forms.Term.{Term}
use Rattle.homeo_follow.specs.Key.{definitions as follow_definitions}
use Rattle.homeo_outline.specs.Key.{definitions as outline_definitions}
use Rattle.homeo_outline.specs.ObjectPlan.{template_in, config_in}
use Rattle.homeo_outline.specs.Outlined.{Outlined}
use Rattle.homeo_print.specs.Key.{definitions}
use Rattle.homeo_print.specs.Names.{heading}
use Rattle.homeo_print.specs.Treaties.{clauses_text, freezes_text}
use Rattle.homeo_print.proofs.ClauseLines.{template_count, four_behind}
use Rattle.homeo_print.proofs.treaties.print_plan.Goals as goal

pub returns : goal.returns
unfolding definitions outline_definitions follow_definitions
returns c =
    let w = plain_workload c.args.w.now in
    let p = c.args.plan.now in
    let out = c.args.out.now.items in
    let clauses = c.terms-clauses.result.now in
    let freezes = c.freezes-freezes.result.now in
    let count = sym (length-map clauses (λ (l : Listed Term). l.items)) ∙ ap length (c.terms-clauses.ensures ∙ ap (λ (o : Outlined). o.terms) c.deref.ensures) ∙ sym (template_count p) in
    let deltas = c.freezes-freezes.ensures ∙ ap (λ (o : Outlined). o.freezes) c.deref-2.ensures in
    let lines : List ℕ = clauses_text w (template_in p).clauses (config_in p) in
    let first : ℕ → List ℕ = heading (codes "clauses ") in
    let second : List Delta → List ℕ = λ ds. heading (codes "freezes ") (length ds) in
    let last : ℕ → List Delta → List ℕ = freezes_text w in
    let whole =
    ap (λ l. l ++ last (length clauses) freezes)
    (c.in_ok-push_heading-2.ensures ∙ ap (λ l. l ++ second freezes) (c.in_ok-push_clauses.ensures ∙ ap (λ l. l ++ lines) c.in_ok-push_heading.ensures))
    ∙ four_behind out (first (length clauses)) lines (second freezes) (last (length clauses) freezes)
    ∙ ap₂ (λ n ds. out ++ (((first n ++ lines) ++ second ds) ++ last n ds)) count deltas in
    record { text = subst (λ l. OnOk c.push_freezes.result (c.push_freezes.new.out.items ≡ l)) whole c.push_freezes.ensures }
