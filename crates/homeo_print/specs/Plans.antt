-- Which plans of rounds have treaties to be printed.
use Rattle.std.specs.Prelude.{◌≡◌, ℕ, ◌<◌, length, slice_index_or, pos, ◌≤ℤ◌, Some}
use Rattle.homeo_meaning.specs.Small.{IsSmall}
use Rattle.homeo_plan.specs.Limit.{form_limit}
use Rattle.homeo_plan.specs.declared.templates.Config.{Config}
use Rattle.homeo_outline.specs.declared.plan.ObjectPlan.{ObjectPlan}

-- the slack of each clause can be split evenly, and where bounds are given, a list of them is for each clause
pub record HasBounds (p : ObjectPlan) : Type 0 where
  pub not_negative : (n : ℕ) → n < length p.outline.value.terms → pos 0 ≤ℤ slice_index_or p.slacks.items n (pos 0)
  pub small : (n : ℕ) → n < length p.outline.value.terms → IsSmall form_limit (slice_index_or p.slacks.items n (pos 0))
  pub given : (config : Config) → p.bounds ≡ Some config → length config.bounds.items ≡ length p.outline.value.terms
