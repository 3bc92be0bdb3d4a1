-- What a row in the making stands for.
use Rattle.std.specs.Prelude.{◌≡◌, length, take}
use Rattle.homeo_syntax.specs.Low.{Command, MoreCommand}
use Rattle.homeo_syntax.specs.LowView.{low_tests, low_commands}
use Rattle.homeo_plan.specs.Table.{Row}
use Rattle.homeo_substitution.specs.Bindings.{bound}
use Rattle.homeo_table.specs.declared.making.Making.{Making}
use Rattle.homeo_table.specs.inner.Partings.{tests_of, commands_of, row_with}

-- the row that its tests and commands make
abbrev pub made_row : Making → Row
made_row m = record { formula = low_tests (tests_of m); residual = low_commands (commands_of m) }

-- the whole row, where that of the commands behind is the given one
unfoldable pub completed : Making → Row → Row
completed m = row_with (tests_of m) (commands_of m) (bound m.bindings)

-- a command in front of a row that changes nothing that the formula reads
unfoldable pub command_before : Command → Row → Row
command_before c r = record { formula = r.formula; residual = MoreCommand c r.residual }

-- another row in the making begins with the tests and commands of this one
pub record Begins (m m' : Making) : Type 0 where
  pub tests : take (length (tests_of m)) (tests_of m') ≡ tests_of m
  pub commands : take (length (commands_of m)) (commands_of m') ≡ commands_of m
