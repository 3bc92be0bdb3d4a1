-- One factor more, and no product is larger than the whole.
use Rattle.std.proofs.Common.{◌<◌, ◌^◌, map, rules, sym, ap, subst, ◌∙◌}
use Rattle.homeo_syntax.specs.Low.{Seq}
use Rattle.homeo_syntax.specs.LowView.{low_commands, plain_lcommand}
use Rattle.homeo_syntax.proofs.LowViews.{low_Seq, low_If}
use Rattle.homeo_syntax.proofs.Measures.{low_command_parts}
use Rattle.homeo_meaning.specs.LowSizes.{rows}
use Rattle.homeo_table.proofs.RowCounting.{few-Seq, few-If, factor-next, factor-fits, product-fits, rows-end}
use Rattle.homeo_table.proofs.counting.+counting.Goals as goal

pub row_count-row_product-requires : goal.row_count-row_product-requires
row_count-row_product-requires t c =
    let is = ap plain_lcommand c.in-Seq.is ∙ low_Seq c.in-Seq.commands ∙ ap (λ cs. Seq (low_commands (map plain_lcommand cs))) (sym c.as_slice.ensures) in
    (search (rules, low_command_parts), few-Seq (plain_lcommand c.args.c.now) _ is c.requires)

pub row_count-row_count-requires : goal.row_count-row_count-requires
row_count-row_count-requires t c =
    let is = ap plain_lcommand c.in-If.is ∙ low_If c.in-If.test c.in-If.yes c.in-If.no in
    let few = few-If (plain_lcommand c.args.c.now) _ (plain_lcommand c.in-If.yes.value) (plain_lcommand c.in-If.no.value) is c.requires in
    (search (rules, low_command_parts), subst (λ c. rows (plain_lcommand c) < 2 ^ 32) (sym c.deref.ensures) few.0)

pub row_count-row_count-requires-in-If : goal.row_count-row_count-requires-in-If
row_count-row_count-requires-in-If t c =
    let is = ap plain_lcommand c.in-If.is ∙ low_If c.in-If.test c.in-If.yes c.in-If.no in
    let few = few-If (plain_lcommand c.args.c.now) _ (plain_lcommand c.in-If.yes.value) (plain_lcommand c.in-If.no.value) is c.requires in
    (search (rules, low_command_parts), subst (λ c. rows (plain_lcommand c) < 2 ^ 32) (sym c.deref-in-If.ensures) few.1)

pub row_product-row_count-product-requires : goal.row_product-row_count-product-requires
row_product-row_count-product-requires t c = (
  search (rules, low_command_parts),
  factor-fits c.args.cs.now c.loop-c.c-index c.c-item.result c.loop-c-test.true c.c-item.is c.loop-c.product c.loop-c.invariant c.requires,
)

pub row_product-overflow_mul-product : goal.row_product-overflow_mul-product
row_product-overflow_mul-product t c =
    let small = product-fits c.args.cs.now c.loop-c.c-index c.c-item.result c.loop-c-test.true c.c-item.is c.loop-c.product c.loop-c.invariant c.row_count-product.result
    c.row_count-product.ensures c.requires in
    search (rules, small)

pub row_product-loop-c-preserved : goal.row_product-loop-c-preserved
row_product-loop-c-preserved t c =
    factor-next c.args.cs.now c.loop-c.c-index c.c-item.result c.loop-c-test.true c.c-item.is c.loop-c.product c.loop-c.invariant c.row_count-product.result
    c.row_count-product.ensures

pub row_product-returns : goal.row_product-returns
row_product-returns t c = rows-end c.args.cs.now c.loop-c.c-index c.loop-c.product c.loop-c-test.false c.loop-c.invariant
