-- How large and how deep the L form of a call is, how many rows its symbolic table has, and how much it can print.
use Rattle.std.specs.Prelude.{ℕ, ◌+◌, ◌*◌, max}
use Rattle.homeo_syntax.specs.Low.{Expr, Exprs, Literal, OfTemp, Read, Sum, Product, Neg, NoExpr, MoreExpr, Test, Cond, True, Not, Comparison, NoTest, MoreTest, Command, Commands, Skip, Assign, Write, Print, Seq, If, NoCommand, MoreCommand}
use Rattle.homeo_meaning.specs.Key.{definitions}
use Rattle.homeo_meaning.specs.LowMeaning.{Location, TempAt, BaseAt, DeltaAt, location_of, put}

pub record Extent : Type 0 where
  pub size : ℕ
  pub depth : ℕ

-- a size that nothing is inside of
abbrev pub flat : ℕ → Extent
flat n = record { size = n; depth = 0 }

-- one next to the other: the sizes added, the greater depth
abbrev pub beside : Extent → Extent → Extent
beside a b = record { size = a.size + b.size; depth = max a.depth b.depth }

-- with one more round it
abbrev pub around : Extent → Extent
around a = record { size = 1 + a.size; depth = 1 + a.depth }

-- a phrase without parts
abbrev pub single : Extent
single = record { size = 1; depth = 1 }

-- of each, the greater
abbrev pub greater : Extent → Extent → Extent
greater a b = record { size = max a.size b.size; depth = max a.depth b.depth }

-- what the value of an object becomes where a value of this extent is written, on so many sites: the written value,
-- without the base and the other sites' deltas
abbrev pub written : ℕ → Extent → Extent
written sites e = record { size = e.size + (3 * sites + 2); depth = e.depth + 3 }

-- where a call begins: a temporary is a phrase without parts, an object the sum of its base and its deltas
abbrev pub first_extents : ℕ → Location → Extent
first_extents sites (TempAt t) = single
first_extents sites (BaseAt x) = record { size = sites + 2; depth = 2 }
first_extents sites (DeltaAt x j) = single

-- ---- phrases, where the names have these extents
abbrev mutual
  unfolding definitions

  pub extent : Expr → (Location → Extent) → Extent
  extent (Literal n) v = single
  extent (OfTemp t) v = v (TempAt t)
  extent (Read x) v = v (location_of x)
  extent (Sum es) v = around (extent_all es v)
  extent (Product es) v = around (extent_all es v)
  extent (Neg e) v = around (extent e v)

  pub extent_all : Exprs → (Location → Extent) → Extent
  extent_all NoExpr v = flat 0
  extent_all (MoreExpr e es) v = beside (extent e v) (extent_all es v)

abbrev mutual
  unfolding definitions

  -- a `not` is one round its condition, which is one round its tests
  pub test_extent : Test → (Location → Extent) → Extent
  test_extent True v = single
  test_extent (Not c) v = around (around (tests_extent c v))
  test_extent (Comparison op a b) v = around (beside (extent a v) (extent b v))

  pub tests_extent : Cond → (Location → Extent) → Extent
  tests_extent NoTest v = flat 0
  tests_extent (MoreTest t c) v = beside (test_extent t v) (tests_extent c v)

abbrev pub cond_extent : Cond → (Location → Extent) → Extent
unfolding definitions
cond_extent c v = around (tests_extent c v)

-- ---- commands, on so many sites
abbrev mutual
  unfolding definitions

  -- the extents of the names after a command: after an `if` of each name the greater
  pub after : ℕ → Command → (Location → Extent) → Location → Extent
  after sites Skip v = v
  after sites (Assign t e) v = put v (TempAt t) (extent e v)
  after sites (Write x e) v = put v (location_of x) (written sites (extent e v))
  after sites (Print e) v = v
  after sites (Seq cs) v = after_all sites cs v
  after sites (If b c d) v = λ p. greater (after sites c v p) (after sites d v p)

  pub after_all : ℕ → Commands → (Location → Extent) → Location → Extent
  after_all sites NoCommand v = v
  after_all sites (MoreCommand c cs) v = after_all sites cs (after sites c v)

abbrev mutual
  unfolding definitions

  -- the size of a command, and the greatest depth of an expression or condition in it
  pub command_extent : ℕ → Command → (Location → Extent) → Extent
  command_extent sites Skip v = flat 1
  command_extent sites (Assign t e) v = beside (flat 1) (extent e v)
  command_extent sites (Write x e) v = beside (flat (3 * sites + 3)) (extent e v)
  command_extent sites (Print e) v = beside (flat 1) (extent e v)
  command_extent sites (Seq cs) v = beside (flat 1) (commands_extent sites cs v)
  command_extent sites (If b c d) v =
      beside (flat 2) (beside (cond_extent b v) (beside (command_extent sites c v) (command_extent sites d v)))

  pub commands_extent : ℕ → Commands → (Location → Extent) → Extent
  commands_extent sites NoCommand v = flat 0
  commands_extent sites (MoreCommand c cs) v = beside (command_extent sites c v) (commands_extent sites cs (after sites c v))

-- of a call's L form
abbrev pub call_extent : ℕ → Command → Extent
unfolding definitions
call_extent sites c = command_extent sites c (first_extents sites)

abbrev mutual
  unfolding definitions

  -- the rows of a command's symbolic table
  pub rows : Command → ℕ
  rows Skip = 1
  rows (Assign t e) = 1
  rows (Write x e) = 1
  rows (Print e) = 1
  rows (Seq cs) = rows_all cs
  rows (If b c d) = rows c + rows d

  pub rows_all : Commands → ℕ
  rows_all NoCommand = 1
  rows_all (MoreCommand c cs) = rows c * rows_all cs

abbrev mutual
  unfolding definitions

  -- the print commands in a command, in both branches of each `if`
  pub prints_in : Command → ℕ
  prints_in Skip = 0
  prints_in (Assign t e) = 0
  prints_in (Write x e) = 0
  prints_in (Print e) = 1
  prints_in (Seq cs) = prints_in_all cs
  prints_in (If b c d) = prints_in c + prints_in d

  pub prints_in_all : Commands → ℕ
  prints_in_all NoCommand = 0
  prints_in_all (MoreCommand c cs) = prints_in c + prints_in_all cs
