use Rattle.homeo_rules.specs.inner.Sizes.{workload_of}
use Rattle.homeo_rules.proofs.SizesAlong.{sizes_step, sizes_end}
use Rattle.homeo_rules.proofs.rules.sizes.check_sizes.Goals as goal

pub loop-measured-preserved : goal.loop-measured-preserved
loop-measured-preserved c =
    sizes_step c.args.best c.loop-measured.best c.check_size-best.result c.loop-measured.total c.capped_sum-total.result c.args.calls.now c.loop-measured.measured-index _ c.known-measure.result c.loop-measured-test.true c.loop-measured.invariant c.known-measure.ensures c.capped_sum-total.ensures c.check_size-best.ensures

pub returns : goal.returns
returns c =
    sizes_end (workload_of c.args.measuring.now) c.args.best c.loop-measured.best c.loop-measured.total c.args.calls.now c.loop-measured.measured-index c.loop-measured-test.false c.requires.grounds c.requires.told c.loop-measured.invariant
