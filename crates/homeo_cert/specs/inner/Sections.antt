-- A certificate's object, of what it is written from.
use Rattle.std.specs.Prelude.{map, pos, codes}
use Rattle.serde_json.specs.Data.{Data, object, no_members, member}
use Rattle.homeo_syntax.specs.Source as s
use Rattle.homeo_plan.specs.declared.round.RoundPlan.{RoundPlan}
use Rattle.homeo_plan.specs.PlanView.{plain_clause}
use Rattle.homeo_plan.specs.Planned.{sites_of, planned}
use Rattle.homeo_certificate.specs.Certified.{certified_call}
use Rattle.homeo_certificate.specs.Json.{whole_data, list_data, wholes_data}
use Rattle.homeo_certificate.specs.Text.{call_data, clause_data, delta_data}

-- each ground call, with its command for its site
abbrev pub calls_data : s.Workload → Data
calls_data w = list_data (map (λ g. call_data (certified_call (sites_of w) g)) (planned w))

-- of a workload and a plan
abbrev pub sections : s.Workload → RoundPlan → Data
sections w p =
    object (member (codes "base") (wholes_data p.base.items)
    (member (codes "bounds") (list_data (map (λ b. wholes_data b.items) p.config.bounds.items))
    (member (codes "calls") (calls_data w)
    (member (codes "clauses") (list_data (map (λ c. clause_data (plain_clause c)) p.template.clauses.items))
    (member (codes "freezes") (list_data (map delta_data p.template.freezes.items))
    (member (codes "sites") (whole_data (pos p.template.sites))
    (member (codes "version") (whole_data (pos 1)) no_members)))))))
