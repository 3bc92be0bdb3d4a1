-- The clauses at the sites, and the same freezes.
use Rattle.std.proofs.Common.{List, map, ap, ap₂, ◌∙◌}
use Rattle.homeo_plan.specs.PlanView.{plain_clause}
use Rattle.homeo_plan.specs.Template as template
use Rattle.homeo_plan.specs.declared.forms.Delta.{Delta}
use Rattle.homeo_plan.specs.declared.templates.Clause.{Clause}
use Rattle.homeo_follow.specs.Key.{definitions}
use Rattle.homeo_follow.specs.ObjectTemplate.{expanded_clause}
use Rattle.homeo_template.proofs.expanding.at_sites.Goals as goal

pub returns-clause-template : goal.returns-clause-template
unfolding definitions
returns-clause-template c =
    ap₂ (λ (cs : List template.Clause) (ds : List Delta). let t : template.Template = record { clauses = cs; freezes = ds } in t)
    (c.in_ok-clauses.ensures ∙ ap (λ (l : List Clause). map (expanded_clause c.args.t.now.sites) (map plain_clause l)) c.as_slice.ensures)
    (ap (λ l. l.items) c.from_vec.ensures ∙ c.in_ok-freezes.ensures.items ∙ c.as_slice-2.ensures)
