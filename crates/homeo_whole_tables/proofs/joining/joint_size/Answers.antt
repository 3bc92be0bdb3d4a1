-- The running product goes on, and exceeds the limit first where the loop ends early.
use Rattle.std.proofs.Common.{refl, ◌∙◌}
use Rattle.homeo_joint.proofs.Errors.{step_passed_on}
use Rattle.homeo_joint.proofs.Products.{size-more, first_over}
use Rattle.homeo_whole_tables.proofs.CountedTables.{row-counts-at, counts_exist}
use Rattle.homeo_whole_tables.specs.Tables.{row_counts}
use Rattle.homeo_whole_tables.proofs.joining.joint_size.Goals as goal

pub returns-in_err-product-clause-first : goal.returns-in_err-product-clause-first
returns-in_err-product-clause-first c = λ t p e.
    let so_far = c.loop-table in
    let ts = c.args.tables.now in
    let step = c.in_err-product.ensures in
    let same = step_passed_on c.from_residual.result _ _ _ t p c.from_residual.ensures.1 step.error e in
    first_over (row_counts ts) so_far.table c.len.result (counts_exist ts so_far.table c.loop-table-test.true)
    (row-counts-at ts so_far.table c.index-tables-table.result c.len.result c.loop-table-test.true c.index-tables-table.is c.len.ensures) _ 1024
    so_far.invariant.product (step.over refl) so_far.invariant.within t p same.0 same.1

pub loop-table-preserved : goal.loop-table-preserved
loop-table-preserved c =
    let so_far = c.loop-table in
    let ts = c.args.tables.now in
    let step = c.in_ok-product.ensures in
    record {
      product =
          step.product
          ∙ size-more (row_counts ts) so_far.table c.len.result (counts_exist ts so_far.table c.loop-table-test.true)
          (row-counts-at ts so_far.table c.index-tables-table.result c.len.result c.loop-table-test.true c.index-tables-table.is c.len.ensures) _
          so_far.invariant.product;
      within = step.within;
    }
