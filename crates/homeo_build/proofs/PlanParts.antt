-- The parts of a plan: its template has small constants, and each configuration for it fits.
use Rattle.std.proofs.Common.{◌≡◌, ℕ, List, [], ◌∷◌, map, ℤ, pos, Option, Some, None, refl, sym, ap, ap₂, subst, ◌∙◌}
use Rattle.std.specs.Prelude.{◌≤ℤ◌}
use Rattle.homeo_syntax.specs.Source as s
use Rattle.homeo_meaning.specs.Acceptance.{IsAccepted}
use Rattle.homeo_meaning.specs.Bounds.{IsWithin}
use Rattle.homeo_meaning.specs.Schema.{schema_of}
use Rattle.homeo_meaning.specs.Serial.{values_of}
use Rattle.homeo_meaning.specs.Small.{IsSmall}
use Rattle.homeo_plan.specs.Key.{definitions as plan_definitions}
use Rattle.homeo_plan.specs.Config as config
use Rattle.homeo_plan.specs.Each.{Each}
use Rattle.homeo_plan.specs.Limit.{form_limit}
use Rattle.homeo_plan.specs.PlanView.{plain_config, plain_template}
use Rattle.homeo_plan.specs.Planned.{sites_of, planned, template_at, shares_of, policy}
use Rattle.homeo_plan.specs.Template.{Clause, Template}
use Rattle.homeo_plan.specs.declared.templates.Config.{Config}
use Rattle.homeo_plan.specs.declared.templates.Template as code
use Rattle.homeo_plan.proofs.Policy.{slacks_law, policy_fits}
use Rattle.homeo_follow.specs.Key.{definitions}
use Rattle.homeo_outline.specs.Key.{definitions as outline_definitions}
use Rattle.homeo_outline.specs.ObjectPlan.{config_or, template_with}
use Rattle.homeo_outline.specs.Outlined.{Outlined}
use Rattle.homeo_follow.specs.ObjectTemplate.{expanded_clause, expanded_template}
use Rattle.homeo_build.specs.declared.calls.SharedTemplate.{SharedTemplate}
use Rattle.homeo_build.specs.inner.SharedTemplate.{spread}
use Rattle.homeo_build.proofs.ByObjects.{small_slacks}

-- ---- the template
pub has_slack : (w : s.Workload) (base : List ℤ) (t : Template) → t ≡ template_at w base → config.HaveSlack t.clauses
unfolding plan_definitions
has_slack w base t is =
    subst (λ (u : Template). config.HaveSlack u.clauses) (sym is) (slacks_law (sites_of w) (values_of base) (planned w))

-- a clause over whole objects has the slack that it has over deltas
pub slacks_back : (P : ℤ → Type 0) (k : ℕ) (cs : List Clause) → Each (λ c. P c.slack) (map (expanded_clause k) cs) → Each (λ c. P c.slack) cs
unfolding plan_definitions definitions
slacks_back P k [] h = tt
slacks_back P k (c ∷ cs) h = (h.0, slacks_back P k cs h.1)

-- ---- over whole objects
module _ (w : s.Workload) (base : List ℤ) (k : ℕ) (t : Template) (is : expanded_template k t ≡ template_at w base) where
  pub has_object_slack : config.HaveSlack t.clauses
  unfolding definitions
  has_object_slack = slacks_back (λ n. pos 0 ≤ℤ n) k t.clauses (has_slack w base (expanded_template k t) is)

  pub small_object_slacks : IsAccepted w → IsWithin (schema_of w) base → Each (λ c. IsSmall form_limit c.slack) t.clauses
  unfolding definitions
  small_object_slacks accepted within =
      slacks_back (λ n. IsSmall form_limit n) k t.clauses (small_slacks w base accepted within (expanded_template k t) is)

-- made whole of an outline and slacks, and then over the deltas of the sites
pub spread_whole :
    (t : SharedTemplate) (o : Outlined) (slacks : List ℤ) (whole : code.Template) → o ≡ t.outline.value → slacks ≡ t.slacks.items →
    whole.sites ≡ o.sites → plain_template whole ≡ template_with o slacks → expanded_template whole.sites (plain_template whole) ≡ spread t
spread_whole t o slacks whole outline_is slacks_is sites is =
    ap₂ expanded_template sites is ∙ (λ i. expanded_template (outline_is i).sites (template_with (outline_is i) (slacks_is i)))

-- ---- configurations
pub policy_is :
    (w : s.Workload) (base : List ℤ) (t : Template) → t ≡ template_at w base → config.split_by (shares_of w) t.clauses ≡ policy w base
unfolding plan_definitions
policy_is w base t is = ap (λ (u : Template). config.split_by (shares_of w) u.clauses) is

pub config_fits :
    (w : s.Workload) (base : List ℤ) (made : Config) (given : Option Config) → IsAccepted w →
    ((c : Config) → given ≡ Some c → config.Fits (sites_of w) (template_at w base).clauses (plain_config c)) →
    plain_config made ≡ config_or (policy w base) given → config.Fits (sites_of w) (template_at w base).clauses (plain_config made)
unfolding outline_definitions
config_fits w base made None accepted fits is =
    subst (config.Fits (sites_of w) (template_at w base).clauses) (sym is) (policy_fits w base accepted)
config_fits w base made (Some c) accepted fits is =
    subst (config.Fits (sites_of w) (template_at w base).clauses) (sym is) (fits c refl)
