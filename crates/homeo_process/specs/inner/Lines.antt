-- What is kept of the lines behind a text.
use Rattle.std.specs.Prelude.{◌≡◌, ◌<◌, Bool, true, false, ℕ, List, [], ◌++◌, length}
use Rattle.homeo_syntax.specs.declared.workload.Workload.{Workload}
use Rattle.homeo_process.specs.Driven.{Driven}
use Rattle.homeo_process.specs.Runs.{AreLines, HasRun}
use Rattle.homeo_process.specs.Taking.{line_limit}

-- the node, what is kept of the line that hasn't ended, and whether that has too many bytes, so that none is kept
pub record LinesValue : Type 0 where
  pub node : Driven
  pub rest : List ℕ
  pub skips : Bool

abbrev pub IsKeptOf : Bool → (kept line : List ℕ) → Type 0
IsKeptOf false kept line = kept ≡ line
IsKeptOf true kept line = (kept ≡ []) × (line_limit < length line)

-- before any byte
abbrev pub no_lines : Driven → LinesValue
no_lines d = record { node = d; rest = []; skips = false }

-- the line that hasn't ended is this
abbrev pub Keeps : LinesValue → List ℕ → Type 0
Keeps l line = IsKeptOf l.skips l.rest line

-- this is kept after these bytes behind a text of the workload, by which this was given
pub record IsAlong (work : Workload) (bytes given : List ℕ) (l : LinesValue) : Type 0 where
  pub lines : List (List ℕ)
  pub rest : List ℕ
  pub are_lines : AreLines bytes lines rest
  pub run : HasRun work lines l.node given
  pub keeps : Keeps l rest

-- the new answers are the old and more, of which P holds
abbrev pub Gains : (old new : List ℕ) → (List ℕ → Type 0) → Type 0
Gains old new P = (more : List ℕ) × (new ≡ old ++ more) × P more
