-- What a cursor over rows keeps: its branches have the rows to give that it hasn't passed.
use Rattle.std.specs.Prelude.{◌≡◌, ℕ, ◌-◌, Bool, true, List, drop, length, slice_index_or}
use Rattle.homeo_plan.specs.Table.{Row, last_row}
use Rattle.homeo_table.specs.declared.making.Making.{Making}
use Rattle.homeo_table.specs.declared.branches.Parting.{Parting}
use Rattle.homeo_table.specs.inner.Branches.{rows_behind, AreNested}
use Rattle.homeo_table.specs.inner.Makings.{made_row}

-- how many of all rows were passed, where the rest is to come
abbrev pub passed : List Row → List Row → ℕ
passed all rest = length all - length rest

-- the rows to come are the last of all rows; where the cursor stands on a row, it is the one before these
pub record IsCursor (all : List Row) (m : Making) (ps : List Parting) (there : Bool) : Type 0 where
  pub nested : AreNested m ps
  pub left : rows_behind m ps ≡ drop (passed all (rows_behind m ps)) all
  pub reached : there ≡ true → made_row m ≡ slice_index_or all (passed all (rows_behind m ps) - 1) last_row
