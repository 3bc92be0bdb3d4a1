-- The rows that branches have still to give.
use Rattle.std.specs.Prelude.{ℕ, ◌+◌, ◌≤◌, List, [], ◌∷◌, map, reverse, length, ⊤}
use Rattle.homeo_syntax.specs.Low.{Command, Commands, Skip, Assign, Write, Print, Seq, If, NoCommand, MoreCommand}
use Rattle.homeo_syntax.specs.LowView.{plain_lcommand}
use Rattle.homeo_plan.specs.Table.{Row, last_row}
use Rattle.homeo_table.specs.declared.making.Making.{Making}
use Rattle.homeo_table.specs.declared.branches.Branch.{Branch}
use Rattle.homeo_table.specs.declared.branches.Parting.{Parting}
use Rattle.homeo_table.specs.inner.Key.{definitions}
use Rattle.homeo_table.specs.inner.Partings.{tests_of, commands_of, left_before, rows_of_all}
use Rattle.homeo_table.specs.inner.Makings.{completed}

-- the commands that are left, from the last to the first
unfoldable pub left_of : Branch → List Command
left_of b = map (λ c. plain_lcommand c.now) b.left.items

-- the rows of a branch
unfoldable pub rows_of : Branch → List Row
rows_of b = map (completed b.row) (left_before (left_of b) (last_row ∷ []))

-- the rows of the branches that parted from this row in the making, the last one first
abbrev pub rows_behind : Making → List Parting → List Row
rows_behind m ps = rows_of_all (tests_of m) (commands_of m) (reverse ps)

-- no mark is above these numbers of tests and commands, and each is at least as high as those behind it
abbrev pub Nested : ℕ → ℕ → List Parting → Type 0
Nested t c [] = ⊤
Nested t c (p ∷ ps) = (p.mark.tests ≤ t) × ((p.mark.commands ≤ c) × Nested p.mark.tests p.mark.commands ps)

-- so are those of partings, below what stands in a row in the making
abbrev pub AreNested : Making → List Parting → Type 0
AreNested m ps = Nested (length (tests_of m)) (length (commands_of m)) (reverse ps)

abbrev mutual
  unfolding definitions

  -- how many commands there are in a command, with itself
  pub size : Command → ℕ
  size Skip = 1
  size (Assign t e) = 1
  size (Write x e) = 1
  size (Print e) = 1
  size (Seq cs) = 1 + size_all cs
  size (If b c d) = 1 + (size c + size d)

  pub size_all : Commands → ℕ
  size_all NoCommand = 0
  size_all (MoreCommand c cs) = size c + size_all cs

-- in commands that are left
abbrev pub left_size : List Command → ℕ
unfolding definitions
left_size [] = 0
left_size (c ∷ cs) = size c + left_size cs
