use Rattle.std.proofs.Common.{◌∙◌, sym, true≢false}
use Rattle.homeo_certificate.specs.Met.{numbers}
use Rattle.homeo_verify.proofs.LargeNumbers.{numbers_are_large}
use Rattle.homeo_certificate.proofs.SmallMet.{numbers_small, not_too_large}
use Rattle.homeo_verify.proofs.sizes.small.Goals as goal

pub returns-then-is_small-clause-faults : goal.returns-then-is_small-clause-faults
returns-then-is_small-clause-faults c =
    not_too_large (numbers c.args.form) (numbers_small c.args.form (c.is_small.ensures.0 c.if-is_small.true))

pub returns-else-is_small-clause-faults : goal.returns-else-is_small-clause-faults
returns-else-is_small-clause-faults c =
    numbers_are_large c.args.form (λ h. true≢false (sym (c.is_small.ensures.1 h) ∙ c.if-is_small.false))
