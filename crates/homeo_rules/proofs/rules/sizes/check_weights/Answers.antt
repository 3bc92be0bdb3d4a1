use Rattle.homeo_rules.specs.inner.Sizes.{workload_of}
use Rattle.homeo_rules.proofs.WeightsAlong.{weights_begin, weights_step, weights_end}
use Rattle.homeo_rules.proofs.rules.sizes.check_weights.Goals as goal

pub loop-measured-init : goal.loop-measured-init
loop-measured-init c = weights_begin (workload_of c.args.measuring.now) c.args.best c.args.calls.now c.requires

pub loop-measured-preserved : goal.loop-measured-preserved
loop-measured-preserved c =
    weights_step (workload_of c.args.measuring.now) c.args.best c.loop-measured.best c.check_weight-best.result c.args.calls.now c.loop-measured.measured-index _ c.known-measure.result c.loop-measured-test.true c.loop-measured.invariant c.known-measure.ensures c.check_weight-best.ensures

pub returns : goal.returns
returns c = weights_end (workload_of c.args.measuring.now) c.args.best c.loop-measured.best c.args.calls.now c.loop-measured.measured-index c.loop-measured-test.false c.loop-measured.invariant
