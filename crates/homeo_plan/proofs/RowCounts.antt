-- How many rows a table has.
use Rattle.homeo_meaning.specs.Key.{definitions as meaning_definitions}
use Rattle.homeo_plan.specs.Key.{definitions}
use Rattle.std.proofs.Common.{◌≡◌, ℕ, ◌+◌, ◌*◌, List, [], ◌∷◌, map, length, refl, sym, ap, ap₂, ◌∙◌, arith}
use Rattle.std.proofs.Math.Nat.{mul_assoc, add-mul}
use Rattle.std.proofs.lemmas.List.{length-append, length-map}
use Rattle.homeo_syntax.specs.declared.low.SplitName.TheVariants.{Whole, Base, Delta}
use Rattle.homeo_syntax.specs.Low.{Command, Commands, Skip, Assign, Write, Print, Seq, If, NoCommand, MoreCommand}
use Rattle.homeo_meaning.specs.LowSizes.{rows, rows_all}
use Rattle.homeo_plan.specs.Split.{shift, shift_all}
use Rattle.homeo_plan.specs.Table.{Row, test_before, otherwise, before, all_before, clear_row, last_row, table}
use Rattle.homeo_plan.specs.Template.{PlannedCall, shifted}

-- ---- tables
one_each : {X : Type 0} (f : X → Row) (rs : List X) → length (map f rs) ≡ 1 * length rs
one_each f rs = omega (arith, length-map rs f)

mutual
  unfolding definitions meaning_definitions

  length_before : (c : Command) (rs : List Row) → length (before c rs) ≡ rows c * length rs
  length_before Skip rs = omega arith
  length_before (Assign t e) rs = one_each _ rs
  length_before (Write x e) rs = one_each _ rs
  length_before (Print e) rs = one_each _ rs
  length_before (Seq cs) rs = length_all_before cs rs
  length_before (If b c d) rs =
      length-append (map (test_before b) (before c rs)) (map (test_before (otherwise b)) (before d rs))
      ∙ ap₂ ◌+◌
      (length-map (before c rs) (test_before b) ∙ length_before c rs)
      (length-map (before d rs) (test_before (otherwise b)) ∙ length_before d rs)
      ∙ sym (add-mul (rows c) (rows d) (length rs))

  length_all_before : (cs : Commands) (rs : List Row) → length (all_before cs rs) ≡ rows_all cs * length rs
  length_all_before NoCommand rs = omega arith
  length_all_before (MoreCommand c cs) rs =
      length_before c (all_before cs rs) ∙ ap (λ n. rows c * n) (length_all_before cs rs)
      ∙ sym (mul_assoc (rows c) (rows_all cs) (length rs))

pub length_table : (c : Command) → length (table c) ≡ rows c
unfolding definitions meaning_definitions
length_table c =
    let one : rows c * 1 ≡ rows c = omega arith in
    length-map (before c (last_row ∷ [])) clear_row ∙ length_before c (last_row ∷ []) ∙ one

-- ---- the table of a transformed command
mutual
  unfolding definitions meaning_definitions

  pub rows_shift : (k i : ℕ) (c : Command) → rows (shift k i c) ≡ rows c
  rows_shift k i Skip = refl
  rows_shift k i (Assign t e) = refl
  rows_shift k i (Write (Whole x) e) = refl
  rows_shift k i (Write (Base x) e) = refl
  rows_shift k i (Write (Delta x j) e) = refl
  rows_shift k i (Print e) = refl
  rows_shift k i (Seq cs) = rows_shift_all k i cs
  rows_shift k i (If b c d) = ap₂ ◌+◌ (rows_shift k i c) (rows_shift k i d)

  rows_shift_all : (k i : ℕ) (cs : Commands) → rows_all (shift_all k i cs) ≡ rows_all cs
  rows_shift_all k i NoCommand = refl
  rows_shift_all k i (MoreCommand c cs) = ap₂ ◌*◌ (rows_shift k i c) (rows_shift_all k i cs)

pub length_shifted : (k : ℕ) (g : PlannedCall) → length (table (shifted k g)) ≡ rows g.command
unfolding definitions
length_shifted k g = length_table (shift k g.site g.command) ∙ rows_shift k g.site g.command
