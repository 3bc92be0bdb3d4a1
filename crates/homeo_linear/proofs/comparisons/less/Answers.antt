-- The difference and one more.
use Rattle.std.proofs.Common.{◌∙◌}
use Rattle.homeo_linear.proofs.Comparing.{one_small}
use Rattle.homeo_linear.proofs.comparisons.less.Goals as goal

pub plus_number-form-requires-clause-number_small : goal.plus_number-form-requires-clause-number_small
plus_number-form-requires-clause-number_small c = one_small

pub returns : goal.returns
returns c = c.into_linear.ensures ∙ c.plus_number-form.ensures.first
