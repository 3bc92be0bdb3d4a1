-- A site of an accepted workload can keep its part of a plan's treaty.
use Rattle.std.proofs.Common.{◌≡◌, ℕ, ◌<◌, All, sym, subst}
use Rattle.homeo_syntax.specs.Source.{Workload}
use Rattle.homeo_meaning.specs.Acceptance.{IsAccepted}
use Rattle.homeo_plan.specs.Planned.{sites_of}
use Rattle.homeo_outline.specs.Key.{definitions as outline_definitions}
use Rattle.homeo_outline.specs.ObjectPlan.{template_with, template_in, config_in}
use Rattle.homeo_outline.specs.declared.plan.ObjectPlan.{ObjectPlan}
use Rattle.homeo_build.specs.Plan.{IsObjectPlan}
use Rattle.homeo_build.proofs.PlanParts.{has_object_slack, small_object_slacks}
use Rattle.homeo_plan.specs.Joined.{Deltas}
use Rattle.homeo_site.specs.OwnTreaty.{OwnClause, SumsFit, own_clauses}
use Rattle.homeo_site.specs.inner.OwnRound.{IsOwnRound}
use Rattle.homeo_site.specs.inner.Parts.{CanKeep}

-- each site of an accepted workload can keep its part
pub can_keep : (w : Workload) (p : ObjectPlan) (i : ℕ) → IsAccepted w → i < sites_of w → IsObjectPlan w p.base.items p → CanKeep p i
unfolding outline_definitions
can_keep w p i accepted site plan =
    let k = p.outline.value.sites in
    let t = template_with p.outline.value p.slacks.items in
    record {
      site = subst (λ n. i < n) (sym plan.sites) site;
      not_negative = has_object_slack w p.base.items k t plan.template;
      small = small_object_slacks w p.base.items k t plan.template accepted plan.within;
      led = plan.led;
    }

-- ---- in a plan by another name
abbrev pub ClausesFit : ObjectPlan → ℕ → Deltas → Type 0
ClausesFit p i y = All (λ (o : OwnClause). SumsFit o.terms y) (own_clauses i (template_in p).clauses (config_in p))

module _ (w : Workload) (p q : ObjectPlan) (i : ℕ) (own : IsOwnRound w p i) (same : q ≡ p) where
  pub keeps_by : CanKeep q i
  keeps_by = subst (λ (z : ObjectPlan). CanKeep z i) (sym same) (can_keep w p i own.accepted own.site own.plan)

  pub fits_by : (y : Deltas) → ClausesFit p i y → ClausesFit q i y
  fits_by y fits = subst (λ (z : ObjectPlan). ClausesFit z i y) (sym same) fits
