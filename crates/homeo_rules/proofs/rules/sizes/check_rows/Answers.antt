use Rattle.homeo_rules.specs.inner.Sizes.{workload_of}
use Rattle.homeo_rules.proofs.RowsAlong.{rows_begin, rows_step, rows_end}
use Rattle.homeo_rules.proofs.rules.sizes.check_rows.Goals as goal

pub loop-measured-init : goal.loop-measured-init
loop-measured-init c = rows_begin (workload_of c.args.measuring.now) c.args.best c.args.calls.now c.requires

pub loop-measured-preserved : goal.loop-measured-preserved
loop-measured-preserved c =
    rows_step (workload_of c.args.measuring.now) c.args.best c.loop-measured.best c.check_row_count-best.result c.loop-measured.total c.capped_product.result c.capped_sum-total.result c.args.calls.now c.loop-measured.measured-index _ c.known-measure.result c.loop-measured-test.true c.loop-measured.invariant c.known-measure.ensures c.capped_product.ensures c.capped_sum-total.ensures c.check_row_count-best.ensures

pub returns : goal.returns
returns c =
    rows_end (workload_of c.args.measuring.now) c.args.best c.loop-measured.best c.loop-measured.total c.args.calls.now c.loop-measured.measured-index c.loop-measured-test.false c.loop-measured.invariant
