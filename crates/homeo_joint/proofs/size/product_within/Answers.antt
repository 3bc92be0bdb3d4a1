-- The running product goes on, and exceeds the limit first where the loop ends early.
use Rattle.std.proofs.Common.{refl, ◌∙◌}
use Rattle.std.specs.Prelude.{slice_index_or}
use Rattle.homeo_joint.proofs.Errors.{step_passed_on}
use Rattle.homeo_joint.proofs.Products.{item-is, size-more, first_over}
use Rattle.homeo_joint.proofs.size.product_within.Goals as goal

pub returns-in_err-product-clause-first : goal.returns-in_err-product-clause-first
returns-in_err-product-clause-first c = λ t p e.
    let so_far = c.loop-table in
    let counts = c.args.counts.now in
    let within = c.loop-table-test.true in
    let step = c.in_err-product.ensures in
    let same = step_passed_on c.from_residual.result _ _ _ t p c.from_residual.ensures.1 step.error e in
    first_over counts so_far.table (slice_index_or counts so_far.table 0) within (item-is counts so_far.table 0 _ within) so_far.product 1024
    so_far.invariant.product (step.over refl) so_far.invariant.within t p same.0 same.1

pub loop-table-preserved : goal.loop-table-preserved
loop-table-preserved c =
    let so_far = c.loop-table in
    let counts = c.args.counts.now in
    let within = c.loop-table-test.true in
    let step = c.in_ok-product.ensures in
    record {
      product =
          step.product
          ∙ size-more counts so_far.table (slice_index_or counts so_far.table 0) within (item-is counts so_far.table 0 _ within) so_far.product so_far.invariant.product;
      within = step.within;
    }
