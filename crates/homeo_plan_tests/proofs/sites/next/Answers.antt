-- The expression is that of the definition.
use Rattle.std.proofs.Common.{pos, ◌∙◌}
use Rattle.homeo_syntax.specs.declared.low.SplitName.TheVariants.{Whole}
use Rattle.homeo_syntax.proofs.LowViews.{low_Literal, low_Read}
use Rattle.homeo_plan_tests.specs.inner.Object.{pair_of}
use Rattle.homeo_plan_tests.proofs.sites.next.Goals as goal

pub returns : goal.returns
returns g c = c.pair.ensures ∙ (λ i. pair_of (low_Read (Whole 0) i) (low_Literal (pos 1) i))
