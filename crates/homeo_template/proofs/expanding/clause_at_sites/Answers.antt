-- Its terms.
use Rattle.std.proofs.Common.{◌≡◌, List, ap, ◌∙◌, to_z, of_z, SFits, rules}
use mir.Syntax.{w128}
use Rattle.std.proofs.lemmas.Int.{to_z-of_z}
use Rattle.homeo_follow.specs.Expanded.{expanded_terms}
use Rattle.homeo_plan.specs.declared.forms.Term.{Term}
use Rattle.homeo_template.proofs.AtSites.{clause_made}
use Rattle.homeo_template.proofs.expanding.clause_at_sites.Goals as goal

pub returns : goal.returns
returns c =
    let clause = c.args.clause.now in
    let fits : SFits w128 clause.slack = search rules in
    let back : to_z w128 (of_z w128 clause.slack) ≡ clause.slack = to_z-of_z w128 clause.slack fits in
    clause_made c.args.sites clause c.from_vec.result _
    (ap (λ l. l.items) c.from_vec.ensures ∙ c.in_ok-terms.ensures ∙ ap (λ (ts : List Term). expanded_terms c.args.sites ts) c.as_slice.ensures)
    back
