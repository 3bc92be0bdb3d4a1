-- The row that holds is among those that are left.
use Rattle.std.proofs.Common.{◌≡◌, [], ◌∷◌, map, drop, filter}
use Rattle.homeo_plan.specs.PlanView.{plain_row}
use Rattle.homeo_plan.specs.Table.{holds_at, row_at}
use Rattle.homeo_split.specs.States.{state_of}
use Rattle.homeo_whole_tables.proofs.selection.row_at.Given as goal

abbrev pub invariant-loop-place : goal.invariant-loop-place
invariant-loop-place l =
    let s = state_of l.base in
    filter (holds_at s) (map plain_row (drop l.place l.rows)) ≡ row_at (map plain_row l.rows) s ∷ []
