-- The expression is that of the definition.
use Rattle.std.proofs.Common.{◌∙◌}
use Rattle.homeo_syntax.specs.declared.low.SplitName.TheVariants.{Base, Delta}
use Rattle.homeo_syntax.proofs.LowViews.{low_Read}
use Rattle.homeo_plan_tests.specs.inner.Object.{sum_of}
use Rattle.homeo_plan_tests.proofs.object.object_sum.Goals as goal

pub returns : goal.returns
returns g c = c.sum.ensures ∙ (λ i. sum_of (low_Read (Base 0) i) (low_Read (Delta 0 0) i) (low_Read (Delta 0 1) i))
