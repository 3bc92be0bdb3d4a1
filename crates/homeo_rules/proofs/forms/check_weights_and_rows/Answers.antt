use Rattle.homeo_rules.specs.inner.Sizes.{workload_of}
use Rattle.homeo_rules.proofs.FormFaults.{weights-and-rows}
use Rattle.homeo_rules.proofs.forms.check_weights_and_rows.Goals as goal

pub returns : goal.returns
returns c =
    weights-and-rows c.args.purpose (workload_of c.args.measuring.now) c.args.measured.now c.check_weights-best.result c.check_tables.result c.requires.grounds c.check_weights-best.ensures c.check_tables.ensures
