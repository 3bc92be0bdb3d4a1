-- The rows that a cursor has passed, and those that are to come.
use Rattle.std.proofs.Common.{◌≡◌, ◌+◌, ◌-◌, ◌<◌, Bool, true, false, List, [], ◌∷◌, drop, length, get_or, sym, ap, ap₂, subst, ◌∙◌, arith}
use Rattle.std.proofs.lemmas.Bool.{false≢true}
use Rattle.std.proofs.lemmas.List.{length-drop, drop-drop, get_or-drop, drop_more, drop_all}
use Rattle.homeo_syntax.specs.declared.low.LCommand.{LCommand}
use Rattle.homeo_syntax.specs.LowView.{plain_lcommand}
use Rattle.homeo_plan.specs.Table.{Row, last_row, table}
use Rattle.homeo_table.specs.Rows.{RowsValue, all_rows, reached}
use Rattle.homeo_table.specs.declared.making.Making.{Making}
use Rattle.homeo_table.specs.declared.branches.Parting.{Parting}
use Rattle.homeo_table.specs.inner.Branches.{rows_behind, AreNested}
use Rattle.homeo_table.specs.inner.Cursors.{passed, IsCursor}
use Rattle.homeo_table.specs.inner.Makings.{made_row}
use Rattle.homeo_table.specs.inner.Partings.{tests_of, commands_of}
use Rattle.homeo_table.proofs.Parted.{none-come}

-- ---- one row more is passed
module _ (all rest more : List Row) (r : Row) (last : rest ≡ drop (passed all rest) all) (is : rest ≡ r ∷ more) where
  fits : length rest ≡ length all - passed all rest
  fits = ap length last ∙ length-drop (passed all rest) all

  pub row-some : passed all rest < length all
  row-some = omega (arith, ap length is, fits)

  pub row-passed : passed all more ≡ passed all rest + 1
  row-passed = omega (arith, ap length is, fits)

  row-left : more ≡ drop (passed all more) all
  row-left = ap (drop 1) (sym is ∙ last) ∙ drop-drop 1 (passed all rest) all ∙ ap (λ n. drop n all) (sym row-passed)

  row-here : r ≡ get_or all (passed all more - 1) last_row
  row-here =
      let before : passed all rest + 0 ≡ passed all more - 1 = omega (arith, row-passed) in
      ap (λ l. get_or l 0 last_row) (sym is ∙ last) ∙ get_or-drop (passed all rest) all 0 last_row ∙ ap (λ n. get_or all n last_row) before

-- ---- cursors
-- before the first row
pub none-passed : (all rest : List Row) → rest ≡ all → passed all rest ≡ 0
none-passed all rest is = omega (arith, ap length is)

pub begun : (all : List Row) (m : Making) (ps : List Parting) → AreNested m ps → rows_behind m ps ≡ all → IsCursor all m ps false
begun all m ps nested is = record {
  nested = nested;
  left = is ∙ ap (λ n. drop n all) (sym (none-passed all (rows_behind m ps) is));
  reached = λ there. absurd (false≢true there);
}

-- on a row
pub gone_on :
    (all : List Row) (m n : Making) (ps qs : List Parting) (there : Bool) → IsCursor all m ps there → AreNested n qs →
    rows_behind m ps ≡ made_row n ∷ rows_behind n qs → IsCursor all n qs true
gone_on all m n ps qs there cursor nested is = record {
  nested = nested;
  left = row-left all (rows_behind m ps) (rows_behind n qs) (made_row n) cursor.left is;
  reached = λ _. row-here all (rows_behind m ps) (rows_behind n qs) (made_row n) cursor.left is;
}

-- behind the last row
pub all-passed : (all : List Row) (m : Making) (ps : List Parting) → ps ≡ [] → passed all (rows_behind m ps) ≡ length all
all-passed all m ps e = omega (arith, ap length (none-come (tests_of m) (commands_of m) ps e))

pub ended : (all : List Row) (m : Making) (ps : List Parting) → ps ≡ [] → IsCursor all m ps false
ended all m ps e = record {
  nested = subst (AreNested m) (sym e) tt;
  left =
      none-come (tests_of m) (commands_of m) ps e
      ∙ sym (drop_all (passed all (rows_behind m ps)) all (omega (arith, all-passed all m ps e)));
  reached = λ there. absurd (false≢true there);
}

-- ---- all rows, one after another
-- the row that is reached is the one behind those that were passed
pub row-next :
    (c : LCommand) (v w : RowsValue) → v.command ≡ c → w.command ≡ v.command → w.passed ≡ v.passed + 1 →
    reached w ≡ get_or (table (plain_lcommand c)) v.passed last_row
row-next c v w is same more =
    let before : w.passed - 1 ≡ v.passed = omega (arith, more) in
    ap₂ (λ c n. get_or (table (plain_lcommand c)) n last_row) (same ∙ is) before

pub within : (c : LCommand) (v : RowsValue) → v.command ≡ c → v.passed < length (all_rows v) → v.passed < length (table (plain_lcommand c))
within c v is less = subst (λ c. v.passed < length (table (plain_lcommand c))) is less

pub fewer-left :
    (v w : RowsValue) → w.command ≡ v.command → w.passed ≡ v.passed + 1 → v.passed < length (all_rows v) →
    length (all_rows w) - w.passed < length (all_rows v) - v.passed
fewer-left v w same more less = omega (arith, ap (λ c. length (table (plain_lcommand c))) same, more, less)

-- the rows that are to come, before and after one more is reached
pub left-next :
    (c : LCommand) (v w : RowsValue) → v.command ≡ c → w.command ≡ v.command → w.passed ≡ v.passed + 1 → v.passed < length (all_rows v) →
    drop v.passed (table (plain_lcommand c)) ≡ reached w ∷ drop w.passed (table (plain_lcommand c))
left-next c v w is same more less =
    let all = table (plain_lcommand c) in
    drop_more all v.passed last_row (within c v is less) ∙ ap₂ (λ r n. r ∷ drop n all) (sym (row-next c v w is same more)) (sym more)

pub none-left : (c : LCommand) (v : RowsValue) → v.command ≡ c → v.passed ≡ length (all_rows v) → drop v.passed (table (plain_lcommand c)) ≡ []
none-left c v is end =
    let all = end ∙ ap (λ c. length (table (plain_lcommand c))) is in
    drop_all v.passed (table (plain_lcommand c)) (omega (arith, all))
