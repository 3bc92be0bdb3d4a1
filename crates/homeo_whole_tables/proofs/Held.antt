-- The first of the rows that are left, where one of them holds.
use Rattle.std.proofs.Common.{◌≡◌, ℕ, ◌+◌, ◌<◌, true, false, cond, List, [], ◌∷◌, map, filter, drop, length, sym, ap, ◌∙◌, subst}
use Rattle.std.specs.Prelude.{slice_index_or}
use Rattle.std.proofs.lemmas.List.{get_or-map}
use Rattle.homeo_meaning.specs.LowMeaning.{State, holds, exec, exec_all}
use Rattle.homeo_meaning.proofs.Steps.{drop_next}
use Rattle.homeo_plan.specs.Key.{definitions}
use Rattle.homeo_plan.specs.declared.rows.Row as rows
use Rattle.homeo_plan.specs.PlanView.{plain_row}
use Rattle.homeo_plan.specs.Table.{Row, last_row, holds_at, row_at, table}
use Rattle.homeo_plan.specs.Joint.{HasOneRow}
use Rattle.homeo_plan.proofs.Tables.{table_law}
use Rattle.homeo_split.specs.Key.{definitions as split_definitions}
use Rattle.homeo_split.specs.declared.split.Split.{Split}
use Rattle.homeo_split.specs.States.{state_of}
use Rattle.homeo_syntax.specs.Low.{Command}
use Rattle.homeo_table.proofs.NoTemps.{no_temps}

pub held-row :
    (s : State) (rs : List rows.Row) (i : ℕ) (r : rows.Row) (one : Row) → i < length rs → r ≡ slice_index_or rs i r →
    filter (holds_at s) (map plain_row (drop i rs)) ≡ one ∷ [] → true ≡ holds (plain_row r).formula s →
    slice_index_or (map plain_row rs) i last_row ≡ one
unfolding definitions
held-row s rs i r one h is e k =
    let rest : List Row = map plain_row (drop (i + 1) rs) in
    let first : plain_row r ∷ filter (holds_at s) rest ≡ one ∷ [] =
    ap (λ v. cond v (plain_row r ∷ filter (holds_at s) rest) (filter (holds_at s) rest)) k
    ∙ sym (ap (filter (holds_at s)) (drop_next plain_row rs i r h is)) ∙ e in
    let same : plain_row r ≡ one = cc in
    get_or-map plain_row rs i r last_row h ∙ ap plain_row (sym is) ∙ same

pub passed-row :
    (s : State) (rs : List rows.Row) (i : ℕ) (r : rows.Row) (one : Row) → i < length rs → r ≡ slice_index_or rs i r →
    filter (holds_at s) (map plain_row (drop i rs)) ≡ one ∷ [] → false ≡ holds (plain_row r).formula s →
    filter (holds_at s) (map plain_row (drop (i + 1) rs)) ≡ one ∷ []
unfolding definitions
passed-row s rs i r one h is e k =
    let rest : List Row = map plain_row (drop (i + 1) rs) in
    ap (λ v. cond v (plain_row r ∷ filter (holds_at s) rest) (filter (holds_at s) rest)) k
    ∙ sym (ap (filter (holds_at s)) (drop_next plain_row rs i r h is)) ∙ e

-- ---- tables
pub table_has_one : (c : Command) (rs : List Row) → rs ≡ table c → (base : Split) → HasOneRow (state_of base) rs
unfolding definitions split_definitions
table_has_one c rs e base = subst (HasOneRow (state_of base)) (sym e) (table_law c (state_of base) (no_temps base)).one

pub table_does :
    (c : Command) (rs : List Row) → rs ≡ table c → (base : Split) →
    exec_all (row_at rs (state_of base)).residual (state_of base) ≡ exec c (state_of base)
unfolding definitions split_definitions
table_does c rs e base =
    ap (λ (l : List Row). exec_all (row_at l (state_of base)).residual (state_of base)) e ∙ (table_law c (state_of base) (no_temps base)).residual
