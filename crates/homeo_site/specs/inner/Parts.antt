-- What a site keeps of a treaty in the round of a plan.
use Rattle.std.specs.Prelude.{ℕ, ◌<◌}
use Rattle.homeo_meaning.specs.Small.{IsSmall}
use Rattle.homeo_plan.specs.Config.{HaveSlack}
use Rattle.homeo_plan.specs.Each.{Each}
use Rattle.homeo_plan.specs.Limit.{form_limit}
use Rattle.homeo_outline.specs.Leaders.{Lead}
use Rattle.homeo_outline.specs.ObjectPlan.{template_with}
use Rattle.homeo_outline.specs.declared.plan.ObjectPlan.{ObjectPlan}

-- site i is one of the plan's, the slacks are small, none of them negative, and the leaders lead the clauses
pub record CanKeep (p : ObjectPlan) (i : ℕ) : Type 0 where
  pub site : i < p.outline.value.sites
  pub not_negative : HaveSlack (template_with p.outline.value p.slacks.items).clauses
  pub small : Each (λ c. IsSmall form_limit c.slack) (template_with p.outline.value p.slacks.items).clauses
  pub led : Lead p.outline.value.terms p.slacks.items p.leaders.value
