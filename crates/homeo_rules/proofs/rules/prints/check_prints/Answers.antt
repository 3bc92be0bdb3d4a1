use Rattle.std.proofs.Common.{◌∙◌}
use Rattle.homeo_rules.proofs.Printings.{prints-along}
use Rattle.homeo_rules.proofs.rules.prints.check_prints.Goals as goal

pub returns : goal.returns
returns c =
    c.check_totals.ensures
    ∙ prints-along c.args.measuring.now c.args.best c.as_slice.result.now c.as_slice-transactions.result.now c.args.calls.now c.requires c.as_slice-transactions.ensures (λ args. c.as_slice.ensures.value ∙ c.in_ok-counts.ensures args)
