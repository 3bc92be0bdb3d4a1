-- Each row is written as it is reached.
use Rattle.std.proofs.Common.{drop, ap, ◌∙◌, arith}
use Rattle.homeo_syntax.specs.LowView.{plain_lcommand}
use Rattle.homeo_syntax.specs.SourceView.{plain_workload}
use Rattle.homeo_plan.specs.Table.{table}
use Rattle.homeo_plan.proofs.RowCounts.{length_table}
use Rattle.homeo_table.specs.Rows.{reached}
use Rattle.homeo_table.proofs.Cursors.{within, fewer-left, left-next, none-left}
use Rattle.homeo_commands.proofs.Tabulating.{row_next, rows_end, rows_start}
use Rattle.homeo_commands.proofs.tables.push_rows.Goals as goal

pub loop-rows-init : goal.loop-rows-init
loop-rows-init c =
    let first = c.in_ok-rows.ensures.first in
    record {
      command = c.in_ok-rows.ensures.command;
      count = omega (arith, first);
      text =
          rows_start (plain_workload c.args.w.now) c.args.out.now.items _ (table (plain_lcommand c.args.c.now))
          (ap (λ n. drop n (table (plain_lcommand c.args.c.now))) first);
    }

pub loop-rows-smaller : goal.loop-rows-smaller
loop-rows-smaller c =
    fewer-left c.loop-rows.rows c.next.new.self c.in_ok-next.ensures.command (c.in_ok-next.ensures.row c.if-branch.true)
    (c.in_ok-next.ensures.some c.if-branch.true)

pub overflow_add-number : goal.overflow_add-number
overflow_add-number c =
    let less = within c.args.c.now c.loop-rows.rows c.loop-rows.invariant.command (c.in_ok-next.ensures.some c.if-branch.true) in
    omega (arith, less, length_table (plain_lcommand c.args.c.now), c.loop-rows.invariant.count, c.requires.few)

pub loop-rows-preserved : goal.loop-rows-preserved
loop-rows-preserved c =
    let more = c.in_ok-next.ensures.row c.if-branch.true in
    let so_far = c.loop-rows.invariant in
    record {
      command = c.in_ok-next.ensures.command ∙ so_far.command;
      count = omega (arith, so_far.count, more);
      text =
          row_next (plain_workload c.args.w.now) c.loop-rows.number _ (reached c.next.new.self) _ _ c.loop-rows.out.items
          c.print_row.new.out.items c.args.out.now.items _
          (left-next c.args.c.now c.loop-rows.rows c.next.new.self so_far.command c.in_ok-next.ensures.command more (c.in_ok-next.ensures.some c.if-branch.true))
          (λ i. record { formula = c.formula.ensures i; residual = c.residual.ensures i }) c.in_ok-print_row.ensures.text so_far.text;
    }

pub returns : goal.returns
returns c =
    rows_end (plain_workload c.args.w.now) c.loop-rows.number _ c.loop-rows.out.items _
    (none-left c.args.c.now c.loop-rows.rows c.loop-rows.invariant.command (c.in_ok-next.ensures.none c.if-branch.false)) c.loop-rows.invariant.text
