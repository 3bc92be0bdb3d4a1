-- What is written of a plan is its certificate.
use Rattle.std.proofs.Common.{◌≡◌, ℕ, List, map, ℤ, pos, codes, sym, ap, ◌∙◌}
use Rattle.std.proofs.lemmas.Simd.{map-map}
use Rattle.serde_json.specs.Data.{Data, object, no_members, member}
use Rattle.homeo_syntax.specs.Listed.{Listed}
use Rattle.homeo_syntax.specs.Source as s
use Rattle.homeo_plan.specs.declared.round.RoundPlan.{RoundPlan}
use Rattle.homeo_plan.specs.PlanView.{plain_clause, plain_template, plain_config}
use Rattle.homeo_plan.specs.Planned.{sites_of, planned, template_at}
use Rattle.homeo_plan.specs.Template.{Template}
use Rattle.homeo_build.specs.Plan.{IsPlanOf}
use Rattle.homeo_certificate.specs.Certificate.{Certificate}
use Rattle.homeo_certificate.specs.Certified.{certified_call, certificate_of}
use Rattle.homeo_certificate.specs.Json.{list_data, whole_data, wholes_data}
use Rattle.homeo_certificate.specs.Text.{call_data, clause_data, delta_data, certificate_data}
use Rattle.homeo_cert.specs.inner.Sections.{sections}

-- the certificate of a plan's base and bounds, with this template for so many sites
abbrev with_template : s.Workload → RoundPlan → Template → ℕ → Certificate
with_template w p t sites = record {
  sites = sites;
  base = p.base.items;
  clauses = t.clauses;
  bounds = plain_config p.config;
  freezes = t.freezes;
  calls = map (certified_call (sites_of w)) (planned w);
}

-- a certificate's object, with these lists for its bounds, calls and clauses
abbrev with_lists : RoundPlan → List Data → List Data → List Data → Data
with_lists p bounds calls clauses =
    object (member (codes "base") (wholes_data p.base.items)
    (member (codes "bounds") (list_data bounds)
    (member (codes "calls") (list_data calls)
    (member (codes "clauses") (list_data clauses)
    (member (codes "freezes") (list_data (map delta_data p.template.freezes.items))
    (member (codes "sites") (whole_data (pos p.template.sites))
    (member (codes "version") (whole_data (pos 1)) no_members)))))))

of_parts : (w : s.Workload) (p : RoundPlan) → sections w p ≡ certificate_data (with_template w p (plain_template p.template) p.template.sites)
of_parts w p =
    let bounds = map (λ (b : Listed ℤ). wholes_data b.items) p.config.bounds.items in
    let calls = map call_data (map (certified_call (sites_of w)) (planned w)) in
    let clauses = map (λ x. clause_data (plain_clause x)) p.template.clauses.items in
    ap (λ l. with_lists p bounds l clauses) (sym (map-map call_data (certified_call (sites_of w)) (planned w)))
    ∙ ap (λ l. with_lists p l calls clauses) (sym (map-map wholes_data (λ (b : Listed ℤ). b.items) p.config.bounds.items))
    ∙ ap (with_lists p (map wholes_data (plain_config p.config)) calls) (sym (map-map clause_data plain_clause p.template.clauses.items))

pub sections_are :
    (w : s.Workload) (p : RoundPlan) → IsPlanOf w p.base.items p →
    sections w p ≡ certificate_data (certificate_of w p.base.items (plain_config p.config))
sections_are w p plan =
    of_parts w p ∙ ap (λ t. certificate_data (with_template w p t p.template.sites)) plan.template
    ∙ ap (λ k. certificate_data (with_template w p (template_at w p.base.items) k)) plan.sites
