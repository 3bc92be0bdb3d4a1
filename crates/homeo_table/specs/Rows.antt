-- What contracts see of a cursor over the rows of a command's table (this project's rule).
use Rattle.std.specs.Prelude.{ℕ, ◌-◌, Bool, List, slice_index_or}
use Rattle.homeo_syntax.specs.declared.low.LCommand.{LCommand}
use Rattle.homeo_syntax.specs.LowView.{plain_lcommand}
use Rattle.homeo_plan.specs.Table.{Row, last_row, table}

-- the command, how many rows of its table were passed, and whether the cursor stands on the last of these
pub record RowsValue : Type 0 where
  pub command : LCommand
  pub passed : ℕ
  pub there : Bool

-- all rows of the table
abbrev pub all_rows : RowsValue → List Row
all_rows r = table (plain_lcommand r.command)

-- the row that the cursor stands on
abbrev pub reached : RowsValue → Row
reached r = slice_index_or (all_rows r) (r.passed - 1) last_row
