-- Each row that is reached is copied.
use Rattle.std.proofs.Common.{map, take, length, sym, ap, ◌∙◌}
use Rattle.std.proofs.lemmas.List.{length-map}
use Rattle.homeo_syntax.specs.LowView.{plain_lcommand}
use Rattle.homeo_plan.specs.PlanView.{plain_row}
use Rattle.homeo_plan.specs.Table.{table}
use Rattle.homeo_table.proofs.Cursors.{fewer-left}
use Rattle.homeo_whole_tables.proofs.Taken.{rows-pushed, all-taken}
use Rattle.homeo_whole_tables.proofs.Held.{table_has_one, table_does}
use Rattle.homeo_whole_tables.proofs.FormulasFit.{table_fits}
use Rattle.homeo_plan.proofs.RowCounts.{length_table}
use Rattle.homeo_whole_tables.proofs.tables.table.Goals as goal

pub loop-rows-init : goal.loop-rows-init
loop-rows-init c = record {
  command = c.in_ok-rows.ensures.command;
  passed = ap (map plain_row) c.new-table.ensures.items ∙ ap (λ n. take n (table (plain_lcommand c.args.c.now))) (sym c.in_ok-rows.ensures.first);
}

pub loop-rows-smaller : goal.loop-rows-smaller
loop-rows-smaller c =
    fewer-left c.loop-rows.rows c.next.new.self c.in_ok-next.ensures.command (c.in_ok-next.ensures.row c.if-branch.true)
    (c.in_ok-next.ensures.some c.if-branch.true)

pub loop-rows-preserved : goal.loop-rows-preserved
loop-rows-preserved c = record {
  command = c.in_ok-next.ensures.command ∙ c.loop-rows.invariant.command;
  passed =
      rows-pushed plain_row c.loop-rows.table.items c.push.new.self.items c.in_ok-copied_row.field-0 c.args.c.now c.loop-rows.rows c.next.new.self
      c.in_ok-push.ensures.items c.loop-rows.invariant.command c.in_ok-next.ensures.command (c.in_ok-next.ensures.row c.if-branch.true)
      (c.in_ok-next.ensures.some c.if-branch.true) c.in_ok-copied_row.ensures c.loop-rows.invariant.passed;
}

pub returns-clause-rows : goal.returns-clause-rows
returns-clause-rows c =
    c.loop-rows.invariant.passed
    ∙ all-taken c.args.c.now c.loop-rows.rows c.loop-rows.invariant.command (c.in_ok-next.ensures.none c.if-branch.false)

pub returns-clause-one : goal.returns-clause-one
returns-clause-one c = table_has_one (plain_lcommand c.args.c.now) (map plain_row c.loop-rows.table.items) (returns-clause-rows c)

pub returns-clause-means : goal.returns-clause-means
returns-clause-means c = table_does (plain_lcommand c.args.c.now) (map plain_row c.loop-rows.table.items) (returns-clause-rows c)

pub returns-clause-small : goal.returns-clause-small
returns-clause-small c = table_fits (plain_lcommand c.args.c.now) c.loop-rows.table.items (returns-clause-rows c)

pub returns-clause-count : goal.returns-clause-count
returns-clause-count c =
    sym (length-map c.loop-rows.table.items plain_row) ∙ ap length (returns-clause-rows c) ∙ length_table (plain_lcommand c.args.c.now)
