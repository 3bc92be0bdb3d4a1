use Rattle.homeo_rules.specs.inner.Sizes.{workload_of}
use Rattle.homeo_rules.proofs.FormFaults.{sizes-and-prints}
use Rattle.homeo_rules.proofs.Measured.{if_ok}
use Rattle.homeo_rules.proofs.forms.check_sizes_and_prints.Goals as goal

pub returns : goal.returns
returns c =
    if_ok _ _ (λ b. sizes-and-prints (workload_of c.args.measuring.now) c.args.measured.now c.args.calls.now c.check_sizes-best.result b c.requires.grounds c.requires.sited c.check_sizes-best.ensures) c.check_prints.result c.check_prints.ensures
