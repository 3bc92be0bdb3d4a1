-- The terms are those of the plan's clause.
use Rattle.std.proofs.Common.{◌≡◌, ◌<◌, [], ◌++◌, length, get_or, sym, ap, ap₂, subst, ◌∙◌}
use Rattle.std.specs.Result.{OnOk}
use Rattle.std.proofs.lemmas.List.{get_or-map, length-map}
use Rattle.homeo_syntax.specs.Listed.{Listed}
use Rattle.homeo_syntax.specs.SourceView.{plain_workload}
use Rattle.homeo_plan.specs.declared.forms.Term.{Term}
use Rattle.homeo_follow.specs.Expanded.{expanded_terms}
use Rattle.homeo_outline.specs.Outlined.{Outlined}
use Rattle.homeo_print.specs.Key.{definitions}
use Rattle.homeo_print.specs.Treaties.{terms_text}
use Rattle.homeo_print.proofs.treaties.push_terms_in.Goals as goal

pub returns : goal.returns
unfolding definitions
returns c =
    let n = c.args.clause in
    let own = c.index-terms-clause.result in
    let all = c.terms.ensures ∙ ap (λ (o : Outlined). o.terms) c.deref.ensures in
    let lt = subst (λ m. n < m) (sym (sym (length-map c.terms.result.now (λ (l : Listed Term). l.items)) ∙ ap length all)) c.requires.clause in
    let sites = c.sites.ensures ∙ ap (λ (o : Outlined). o.sites) c.deref-2.ensures in
    let terms = c.as_slice-terms.ensures ∙ ap (λ (l : Listed Term). l.items) c.index-terms-clause.is
    ∙ sym (get_or-map (λ (l : Listed Term). l.items) c.terms.result.now n own [] lt) ∙ ap (λ tss. get_or tss n []) all in
    subst (λ ts. OnOk c.push_terms.result (c.push_terms.new.out.items ≡ c.args.out.now.items ++ terms_text (plain_workload c.args.w.now) ts))
    (ap₂ expanded_terms sites terms) c.push_terms.ensures
