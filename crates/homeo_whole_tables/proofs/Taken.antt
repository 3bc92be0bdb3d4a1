-- The rows of a table that were taken so far.
use Rattle.std.proofs.Common.{◌≡◌, ◌+◌, ◌<◌, List, [], ◌∷◌, ◌++◌, map, take, length, sym, ap, ap₂, ◌∙◌, arith}
use Rattle.std.proofs.lemmas.List.{take_more, take_all, map_push}
use Rattle.homeo_syntax.specs.declared.low.LCommand.{LCommand}
use Rattle.homeo_syntax.specs.LowView.{plain_lcommand}
use Rattle.homeo_plan.specs.Table.{Row, last_row, table}
use Rattle.homeo_table.specs.Rows.{RowsValue, all_rows, reached}
use Rattle.homeo_table.proofs.Cursors.{row-next, within}

pub rows-pushed :
    {X : Type 0} (f : X → Row) (xs ys : List X) (x : X) (c : LCommand) (v w : RowsValue) → ys ≡ xs ++ x ∷ [] → v.command ≡ c → w.command ≡ v.command →
    w.passed ≡ v.passed + 1 → v.passed < length (all_rows v) → f x ≡ reached w → map f xs ≡ take v.passed (table (plain_lcommand c)) →
    map f ys ≡ take w.passed (table (plain_lcommand c))
rows-pushed f xs ys x c v w pushed is same more less row so_far =
    let all = table (plain_lcommand c) in
    ap (map f) pushed ∙ map_push f xs x ∙ ap₂ (λ rows r. rows ++ r ∷ []) so_far (row ∙ row-next c v w is same more)
    ∙ sym (take_more all v.passed last_row (within c v is less)) ∙ ap (λ n. take n all) (sym more)

pub all-taken : (c : LCommand) (v : RowsValue) → v.command ≡ c → v.passed ≡ length (all_rows v) → take v.passed (table (plain_lcommand c)) ≡ table (plain_lcommand c)
all-taken c v is end =
    let all = end ∙ ap (λ c. length (table (plain_lcommand c))) is in
    take_all v.passed (table (plain_lcommand c)) (omega (arith, all))
