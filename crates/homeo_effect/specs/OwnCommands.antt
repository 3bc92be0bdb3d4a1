-- Commands of one site by itself: assignments, writes and prints, which read and write its own deltas and no others, and read
-- no base.
use Rattle.std.specs.Prelude.{ℕ, ◌==◌, Bool, true, false, ◌&&◌}
use Rattle.homeo_syntax.specs.declared.low.SplitName.{SplitName}
use Rattle.homeo_syntax.specs.declared.low.SplitName.TheVariants.{Whole, Base, Delta}
use Rattle.homeo_syntax.specs.Low.{Expr, Exprs, Literal, OfTemp, Read, Sum, Product, Neg, NoExpr, MoreExpr, Command, Commands, Assign, Write, Print, NoCommand, MoreCommand}
use Rattle.homeo_effect.specs.Key.{definitions}

-- the name of a delta of site i
abbrev pub is_own_name : ℕ → SplitName → Bool
unfolding definitions
is_own_name i (Whole x) = false
is_own_name i (Base x) = false
is_own_name i (Delta x j) = j == i

abbrev mutual
  unfolding definitions

  pub reads_own : ℕ → Expr → Bool
  reads_own i (Literal n) = true
  reads_own i (OfTemp t) = true
  reads_own i (Read x) = is_own_name i x
  reads_own i (Sum es) = read_own i es
  reads_own i (Product es) = read_own i es
  reads_own i (Neg e) = reads_own i e

  pub read_own : ℕ → Exprs → Bool
  read_own i NoExpr = true
  read_own i (MoreExpr e es) = reads_own i e && read_own i es

abbrev pub is_own : ℕ → Command → Bool
unfolding definitions
is_own i (Assign t e) = reads_own i e
is_own i (Write x e) = is_own_name i x && reads_own i e
is_own i (Print e) = reads_own i e
is_own i c = false

abbrev pub are_own : ℕ → Commands → Bool
unfolding definitions
are_own i NoCommand = true
are_own i (MoreCommand c cs) = is_own i c && are_own i cs
