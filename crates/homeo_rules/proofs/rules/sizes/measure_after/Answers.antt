use Rattle.homeo_ground.specs.Sited.{sited}
use Rattle.homeo_rules.specs.inner.Sizes.{workload_of}
use Rattle.homeo_rules.proofs.Measured.{measured-after, past-all}
use Rattle.homeo_rules.proofs.rules.sizes.measure_after.Goals as goal

pub returns-then-total-gt-LARGEST_TOGETHER-clause-told : goal.returns-then-total-gt-LARGEST_TOGETHER-clause-told
returns-then-total-gt-LARGEST_TOGETHER-clause-told c = past-all (workload_of c.args.measuring.now) c.args.total (sited c.args.call) c.if-total-gt-LARGEST_TOGETHER.true

pub returns-clause-told : goal.returns-clause-told
returns-clause-told c = measured-after (workload_of c.args.measuring.now) c.args.total (sited c.args.call) c.measure.result c.measure.ensures.measure
