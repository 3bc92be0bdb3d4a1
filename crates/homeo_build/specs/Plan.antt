-- Plans of rounds (Roy et al., SIGMOD 2015): what a workload's round that begins at a base is run by.
use Rattle.std.specs.Prelude.{◌≡◌, ℕ, List, map, ℤ}
use Rattle.std.specs.declared.sync.Arc.{Arc}
use Rattle.homeo_syntax.specs.Low.{Commands}
use Rattle.homeo_syntax.specs.Source as s
use Rattle.homeo_meaning.specs.Bounds.{IsWithin}
use Rattle.homeo_meaning.specs.Schema.{schema_of}
use Rattle.homeo_meaning.specs.Serial.{values_of}
use Rattle.homeo_meaning.specs.Forms.{call_forms}
use Rattle.homeo_plan.specs.declared.rows.Residual.{Residual}
use Rattle.homeo_plan.specs.declared.round.RoundPlan.{RoundPlan}
use Rattle.homeo_plan.specs.Config as config
use Rattle.homeo_plan.specs.Template.{PlannedCall, base_row}
use Rattle.homeo_plan.specs.Planned.{sites_of, planned, template_at}
use Rattle.homeo_plan.specs.PlanView.{plain_residual, plain_template, plain_config}
use Rattle.homeo_follow.specs.Brought.{brought, plain_part}
use Rattle.homeo_outline.specs.Leaders.{Lead}
use Rattle.homeo_outline.specs.ObjectPlan.{template_in}
use Rattle.homeo_outline.specs.declared.plan.ObjectPlan.{ObjectPlan}
use Rattle.homeo_follow.specs.declared.part.PlanPart.{PlanPart}
use Rattle.homeo_build.specs.Key.{definitions}

-- a residual with the site of its call
pub record SitedResidual : Type 0 where
  pub site : ℕ
  pub residual : Commands

abbrev pub sited_residual : Residual → SitedResidual
sited_residual r = record { site = r.site; residual = plain_residual r }

-- of a ground call, for k sites: that of its row at the base
abbrev pub residual_at : ℕ → (ℕ → ℤ) → PlannedCall → SitedResidual
unfolding definitions
residual_at k b g = record { site = g.site; residual = (base_row k b g).residual }

-- of each ground call of a workload, in their order
abbrev pub residuals_at : s.Workload → List ℤ → List SitedResidual
unfolding definitions
residuals_at w base = map (residual_at (sites_of w) (values_of base)) (planned w)

-- a workload's plan at a base of these values: its template there, and bounds that fit it
pub record IsPlanOf (w : s.Workload) (values : List ℤ) (p : RoundPlan) : Type 0 where
  pub within : IsWithin (schema_of w) values
  pub base : p.base.items ≡ values
  pub sites : p.template.sites ≡ sites_of w
  pub template : plain_template p.template ≡ template_at w values
  pub fits : config.Fits (sites_of w) (template_at w values).clauses (plain_config p.config)

-- what the L forms of a workload bring at a base of these values
abbrev pub AreParts : {Z : Type 0} → s.Workload → List ℤ → List (Arc PlanPart Z) → Type 0
unfolding definitions
AreParts w values parts = map (λ p. plain_part p.value) parts ≡ map (brought (values_of values)) (call_forms w)

-- a workload's plan over whole objects at a base of these values: over the deltas of the sites its template is the one there, and its
-- leaders lead its clauses
pub record IsObjectPlan (w : s.Workload) (values : List ℤ) (p : ObjectPlan) : Type 0 where
  pub within : IsWithin (schema_of w) values
  pub base : p.base.items ≡ values
  pub parts : AreParts w values p.parts.items
  pub sites : p.outline.value.sites ≡ sites_of w
  pub template : template_in p ≡ template_at w values
  pub led : Lead p.outline.value.terms p.slacks.items p.leaders.value
