-- What is known of a walk on its way: what is left to follow, from which state, and which row it gives.
use Rattle.std.specs.Prelude.{◌≡◌, true, Option, List, map, reverse}
use Rattle.std.specs.Borrow.{Bor}
use Rattle.homeo_syntax.specs.declared.low.LCommand.{LCommand}
use Rattle.homeo_syntax.specs.Low.{Expr, Command}
use Rattle.homeo_syntax.specs.LowView.{low_commands, plain_lcommand}
use Rattle.homeo_meaning.specs.LowMeaning.{Location, State}
use Rattle.homeo_plan.specs.Table.{Row, last_row, walk_all_before}
use Rattle.homeo_split.specs.CanExec.{run_limit, can_exec_all}
pub use Rattle.homeo_table.specs.After.{value_or, after, fits_if}

-- commands can be followed from the state where these expressions stand
pub record CanFollow (b : Location → Option Expr) (cs : List Command) (s : State) : Type 0 where
  pub expressions : (l : Location) → fits_if (b l) s ≡ true
  pub commands : can_exec_all run_limit (low_commands cs) (after b s) ≡ true

-- the row of these commands' walk from the state where these expressions stand, made whole by f
abbrev pub walked : (Row → Row) → (Location → Option Expr) → List Command → State → Row
walked f b cs s = f (walk_all_before (low_commands cs) (after b s) last_row)

-- other commands can be followed where other expressions stand, and their walk gives the same row
pub record Goes (f f' : Row → Row) (b b' : Location → Option Expr) (cs cs' : List Command) (s : State) : Type 0 where
  pub can : CanFollow b' cs' s
  pub row : walked f' b' cs' s ≡ walked f b cs s

-- the commands to come, the next one first: they stand from the last to the first
abbrev pub to_come : List (Bor LCommand) → List Command
to_come cs = reverse (map (λ c. plain_lcommand c.now) cs)
