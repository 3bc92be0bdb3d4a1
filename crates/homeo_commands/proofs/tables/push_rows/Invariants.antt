-- The rows that were passed are numbered and written; with those that are to come they are all rows.
use Rattle.std.proofs.Common.{◌≡◌, ◌-◌, ◌++◌, drop, length}
use Rattle.homeo_syntax.specs.LowView.{plain_lcommand}
use Rattle.homeo_syntax.specs.SourceView.{plain_workload}
use Rattle.homeo_plan.specs.Table.{table}
use Rattle.homeo_table.specs.Rows.{all_rows}
use Rattle.homeo_print.specs.Tables.{rows_text}
use Rattle.homeo_commands.specs.inner.Tabulated.{rows_from}
use Rattle.homeo_commands.proofs.tables.push_rows.Given as goal

abbrev pub invariant-loop-rows : goal.invariant-loop-rows
invariant-loop-rows l = record {
  command : l.rows.command ≡ l.c;
  count : l.number ≡ l.rows.passed;
  text :
      l.out.items ++ rows_from (plain_workload l.w) l.number (drop l.rows.passed (table (plain_lcommand l.c))) ≡
      l.fn.out.items ++ rows_text (plain_workload l.w) (table (plain_lcommand l.c));
}

abbrev pub decreases-loop-rows : goal.decreases-loop-rows
decreases-loop-rows l = length (all_rows l.rows) - l.rows.passed
