-- The rows that branches which parted have still to give.
use Rattle.std.specs.Prelude.{Option, Some, None, List, [], ◌∷◌, ◌++◌, map, take}
use Rattle.std.specs.Borrow.{Bor}
use Rattle.homeo_syntax.specs.declared.low.LCond.{LCond}
use Rattle.homeo_syntax.specs.Low.{Expr, Test, Command, Commands, MoreCommand}
use Rattle.homeo_syntax.specs.LowView.{low_tests, plain_lcond, plain_ltest, plain_lcommand}
use Rattle.homeo_meaning.specs.LowMeaning.{Location}
use Rattle.homeo_plan.specs.Table.{Row, both, test_before, otherwise, before, last_row}
use Rattle.homeo_substitution.specs.Bindings.{bound}
use Rattle.homeo_substitution.specs.Substitution.{substituted_cond}
use Rattle.homeo_table.specs.declared.making.Making.{Making}
use Rattle.homeo_table.specs.declared.making.Mark.{Mark}
use Rattle.homeo_table.specs.declared.branches.Parting.{Parting}
use Rattle.homeo_table.specs.inner.Key.{definitions}

-- the tests of a row in the making, and its commands
abbrev pub tests_of : Making → List Test
tests_of m = map plain_ltest m.tests.items

abbrev pub commands_of : Making → List Command
commands_of m = map (λ c. plain_lcommand c.now) m.commands.items

-- commands one after another, and then others
abbrev pub and_then : List Command → Commands → Commands
unfolding definitions
and_then [] ds = ds
and_then (c ∷ cs) ds = MoreCommand c (and_then cs ds)

-- tests and commands in front of a row that speaks of the state after them, where these expressions stand
abbrev pub row_with : List Test → List Command → (Location → Option Expr) → Row → Row
row_with ts cs s r = record { formula = both (low_tests ts) (substituted_cond s r.formula); residual = and_then cs r.residual }

-- the same, of the tests and commands that stand before a mark
abbrev pub row_from : List Test → List Command → Mark → Row → Row
row_from ts cs m = row_with (take m.tests ts) (take m.commands cs) (bound m.bindings)

-- commands, from the last to the first, in front of rows
abbrev pub left_before : List Command → List Row → List Row
unfolding definitions
left_before [] rows = rows
left_before (c ∷ cs) rows = left_before cs (before c rows)

-- where there is a condition, a row asks first that it doesn't hold
abbrev pub failed_before : Option (Bor LCond) → Row → Row
failed_before None r = r
failed_before (Some b) r = test_before (otherwise (plain_lcond b.now)) r

-- the rows of a branch, where these are the tests and commands of the branch that was followed last
unfoldable pub rows_from : List Test → List Command → Parting → List Row
rows_from ts cs p =
    map (row_from ts cs p.mark) (map (failed_before p.failed) (left_before (map (λ c. plain_lcommand c.now) p.left.items) (last_row ∷ [])))

-- those of branches, one after another
abbrev pub rows_of_all : List Test → List Command → List Parting → List Row
unfolding definitions
rows_of_all ts cs [] = []
rows_of_all ts cs (p ∷ ps) = rows_from ts cs p ++ rows_of_all ts cs ps
