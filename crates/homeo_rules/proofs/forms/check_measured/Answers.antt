use Rattle.std.proofs.Common.{◌∙◌}
use Rattle.homeo_rules.specs.inner.Sizes.{workload_of}
use Rattle.homeo_rules.proofs.FormFaults.{all-known, sizes-decide, after-sizes}
use Rattle.homeo_rules.proofs.forms.check_measured.Goals as goal

pub returns-in-Some-clause-fault : goal.returns-in-Some-clause-fault
returns-in-Some-clause-fault c = sizes-decide c.args.purpose (workload_of c.args.measuring.now) c.in_ok-best.best _ c.in_ok-best.ensures c.in-Some.is

pub check_weights_and_rows-requires-clause-measured : goal.check_weights_and_rows-requires-clause-measured
check_weights_and_rows-requires-clause-measured c =
    (all-known (workload_of c.args.measuring.now) c.in_ok-best.best c.args.measured.now c.requires.grounds c.requires.told c.in_ok-best.ensures c.in-None.is).measured

pub returns-in-None-clause-fault : goal.returns-in-None-clause-fault
returns-in-None-clause-fault c = c.check_weights_and_rows.ensures ∙ after-sizes c.args.purpose (workload_of c.args.measuring.now) c.in_ok-best.best c.in_ok-best.ensures c.in-None.is

pub returns-in-None-clause-known : goal.returns-in-None-clause-known
returns-in-None-clause-known c = λ none.
    (all-known (workload_of c.args.measuring.now) c.in_ok-best.best c.args.measured.now c.requires.grounds c.requires.told c.in_ok-best.ensures c.in-None.is).some
