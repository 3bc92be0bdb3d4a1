-- The residuals of a transformed command's table and walk write deltas of its site alone.
use Rattle.homeo_meaning.specs.Key.{definitions as meaning_definitions}
use Rattle.homeo_plan.specs.Key.{definitions as plan_definitions}
use Rattle.std.proofs.Common.{◌≡◌, ℕ, Bool, true, false, cond, List, [], ◌∷◌, map, refl}
use Rattle.homeo_syntax.specs.declared.low.SplitName.TheVariants.{Whole, Base, Delta}
use Rattle.homeo_syntax.specs.Low.{Command, Commands, Skip, Assign, Write, Print, Seq, If, NoCommand, MoreCommand}
use Rattle.homeo_meaning.specs.LowMeaning.{TempAt, State, location_of, holds, exec}
use Rattle.homeo_meaning.specs.Whole.{IsWhole}
use Rattle.homeo_meaning.proofs.Parts.{AreWhole}
use Rattle.homeo_plan.specs.Each.{Each}
use Rattle.homeo_plan.specs.Split.{shift, shift_all}
use Rattle.homeo_plan.specs.Table.{Row, set_before, print_before, test_before, otherwise, before, all_before, clear_row, last_row, table, walk_before, walk_all_before, walk}
use Rattle.homeo_plan.proofs.Atoms.{append_each}
use Rattle.homeo_effect.specs.Key.{definitions}
use Rattle.homeo_effect.specs.Touched.{WritesOwn}

module _ (i : ℕ) where
  abbrev mutual
    unfolding definitions

    -- each write in a command is one of the site, in both branches of each `if`
    Own : Command → Type 0
    Own Skip = Unit {0}
    Own (Assign t e) = Unit {0}
    Own (Write (Whole x) e) = ⊥
    Own (Write (Base x) e) = ⊥
    Own (Write (Delta x j) e) = j ≡ i
    Own (Print e) = Unit {0}
    Own (Seq cs) = AllOwn cs
    Own (If b c d) = Own c × Own d

    AllOwn : Commands → Type 0
    AllOwn NoCommand = Unit {0}
    AllOwn (MoreCommand c cs) = Own c × AllOwn cs

  -- so is each of a row's residual
  abbrev RowOwn : Row → Type 0
  RowOwn r = WritesOwn i r.residual

  -- ---- tables
  one_more : (f : Row → Row) → ((r : Row) → RowOwn r → RowOwn (f r)) → (rs : List Row) → Each RowOwn rs → Each RowOwn (map f rs)
  unfolding plan_definitions
  one_more f h [] w = tt
  one_more f h (r ∷ rs) w = (h r w.0, one_more f h rs w.1)

  mutual
    unfolding definitions plan_definitions meaning_definitions

    rows_before : (c : Command) (rs : List Row) → Own c → Each RowOwn rs → Each RowOwn (before c rs)
    rows_before Skip rs w h = h
    rows_before (Assign t e) rs w h = one_more (set_before (Assign t e) (TempAt t) e) (λ r k. k) rs h
    rows_before (Write (Whole x) e) rs w h = absurd w
    rows_before (Write (Base x) e) rs w h = absurd w
    rows_before (Write (Delta x j) e) rs w h = one_more (set_before (Write (Delta x j) e) (location_of (Delta x j)) e) (λ r k. (w, k)) rs h
    rows_before (Print e) rs w h = one_more (print_before e) (λ r k. k) rs h
    rows_before (Seq cs) rs w h = rows_all_before cs rs w h
    rows_before (If b c d) rs w h =
        append_each RowOwn (map (test_before b) (before c rs)) (map (test_before (otherwise b)) (before d rs))
        (one_more (test_before b) (λ r k. k) (before c rs) (rows_before c rs w.0 h))
        (one_more (test_before (otherwise b)) (λ r k. k) (before d rs) (rows_before d rs w.1 h))

    rows_all_before : (cs : Commands) (rs : List Row) → AllOwn cs → Each RowOwn rs → Each RowOwn (all_before cs rs)
    rows_all_before NoCommand rs w h = h
    rows_all_before (MoreCommand c cs) rs w h = rows_before c (all_before cs rs) w.0 (rows_all_before cs rs w.1 h)

  table_own : (c : Command) → Own c → Each RowOwn (table c)
  unfolding definitions plan_definitions
  table_own c w = one_more clear_row (λ r k. k) (before c (last_row ∷ [])) (rows_before c (last_row ∷ []) w (tt, tt))

  -- ---- walks
  mutual
    unfolding definitions plan_definitions meaning_definitions

    own_before : (c : Command) (s : State) (r : Row) → Own c → RowOwn r → RowOwn (walk_before c s r)
    own_before Skip s r w h = h
    own_before (Assign t e) s r w h = h
    own_before (Write (Whole x) e) s r w h = absurd w
    own_before (Write (Base x) e) s r w h = absurd w
    own_before (Write (Delta x j) e) s r w h = (w, h)
    own_before (Print e) s r w h = h
    own_before (Seq cs) s r w h = own_all_before cs s r w h
    own_before (If b c d) s r w h = go (holds b s) (own_before c s r w.0 h) (own_before d s r w.1 h)
      where
        go :
            (v : Bool) → RowOwn (walk_before c s r) → RowOwn (walk_before d s r) →
            RowOwn (cond v (test_before b (walk_before c s r)) (test_before (otherwise b) (walk_before d s r)))
        go true hc hd = hc
        go false hc hd = hd

    own_all_before : (cs : Commands) (s : State) (r : Row) → AllOwn cs → RowOwn r → RowOwn (walk_all_before cs s r)
    own_all_before NoCommand s r w h = h
    own_all_before (MoreCommand c cs) s r w h = own_before c s _ w.0 (own_all_before cs (exec c s).state r w.1 h)

  walk_own : (c : Command) (s : State) → Own c → RowOwn (walk c s)
  unfolding definitions plan_definitions
  walk_own c s w = own_before c s last_row w tt

-- ---- a transformed command
mutual
  unfolding definitions plan_definitions meaning_definitions

  shift_own : (k i : ℕ) (c : Command) → IsWhole c → Own i (shift k i c)
  shift_own k i Skip w = tt
  shift_own k i (Assign t e) w = tt
  shift_own k i (Write (Whole x) e) w = refl
  shift_own k i (Write (Base x) e) w = absurd w.0
  shift_own k i (Write (Delta x j) e) w = absurd w.0
  shift_own k i (Print e) w = tt
  shift_own k i (Seq cs) w = shift_all_own k i cs w
  shift_own k i (If b c d) w = (shift_own k i c w.1, shift_own k i d w.2)

  shift_all_own : (k i : ℕ) (cs : Commands) → AreWhole cs → AllOwn i (shift_all k i cs)
  shift_all_own k i NoCommand w = tt
  shift_all_own k i (MoreCommand c cs) w = (shift_own k i c w.0, shift_all_own k i cs w.1)

pub table_writes_own : (k i : ℕ) (c : Command) → IsWhole c → Each (λ r. WritesOwn i r.residual) (table (shift k i c))
table_writes_own k i c w = table_own i (shift k i c) (shift_own k i c w)

pub walk_writes_own : (k i : ℕ) (c : Command) (s : State) → IsWhole c → WritesOwn i (walk (shift k i c) s).residual
walk_writes_own k i c s w = walk_own i (shift k i c) s (shift_own k i c w)
