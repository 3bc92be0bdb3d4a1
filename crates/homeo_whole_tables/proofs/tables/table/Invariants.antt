-- The rows so far are those that the cursor has passed.
use Rattle.std.proofs.Common.{◌≡◌, ◌-◌, map, take, length}
use Rattle.homeo_syntax.specs.LowView.{plain_lcommand}
use Rattle.homeo_plan.specs.PlanView.{plain_row}
use Rattle.homeo_plan.specs.Table.{table}
use Rattle.homeo_table.specs.Rows.{all_rows}
use Rattle.homeo_whole_tables.proofs.tables.table.Given as goal

abbrev pub invariant-loop-rows : goal.invariant-loop-rows
invariant-loop-rows l = record {
  command : l.rows.command ≡ l.c;
  passed : map plain_row l.table.items ≡ take l.rows.passed (table (plain_lcommand l.c));
}

abbrev pub decreases-loop-rows : goal.decreases-loop-rows
decreases-loop-rows l = length (all_rows l.rows) - l.rows.passed
