-- Ground calls of few rows, and the text of tables, as far as it was written.
use Rattle.std.specs.Prelude.{◌≡◌, ℕ, ◌≤◌, List, ◌++◌, map, length}
use Rattle.std.specs.List.{flat_map, enumerate_from}
use Rattle.homeo_syntax.specs.Source as s
use Rattle.homeo_meaning.specs.CallForm.{ground_form}
use Rattle.homeo_meaning.specs.Ground.{Ground}
use Rattle.homeo_meaning.specs.LowSizes.{rows}
use Rattle.homeo_plan.specs.Table.{Row}
use Rattle.homeo_print.specs.Tables.{call_table, row_text, table_text, joint_text}
use Rattle.homeo_commands.specs.inner.Key.{definitions}

-- its table has as many rows as it may have
abbrev pub HasFewRows : s.Workload → Ground → Type 0
HasFewRows w g = rows (ground_form w g) ≤ 4096

-- the tables of ground calls, numbered from 0
abbrev pub calls_text : s.Workload → List Ground → List ℕ
unfolding definitions
calls_text w calls = flat_map (λ c. table_text w c.0 c.1 (call_table w c.1)) (enumerate_from 0 calls)

-- rows, numbered from n
abbrev pub rows_from : s.Workload → ℕ → List Row → List ℕ
unfolding definitions
rows_from w n rows = flat_map (λ r. row_text w r.0 r.1) (enumerate_from n rows)

-- the joint table of tables of so many rows stands behind what was written
abbrev pub AddsJoint : List ℕ → List ℕ → List ℕ → Type 0
AddsJoint counts before after = (tables : List (List Row)) → map length tables ≡ counts → after ≡ before ++ joint_text tables
