-- What tables stand for, and how many rows they have.
use Rattle.std.specs.Prelude.{ℕ, List, map, Vec, vec_len}
use Rattle.homeo_plan.specs.declared.rows.Row.{Row}
use Rattle.homeo_plan.specs.PlanView.{plain_row}
use Rattle.homeo_plan.specs.Table as table

-- what a table stands for
abbrev pub plain_table : {A : Type 0} → Vec Row A → List table.Row
plain_table t = map plain_row t.items

-- how many rows each table has
abbrev pub row_counts : {A : Type 0} → List (Vec Row A) → List ℕ
row_counts ts = map vec_len ts
