-- What a shell does with a line.
use Rattle.std.specs.Prelude.{◌≡◌, ℕ, List, ◌++◌}
use Rattle.homeo_process.specs.Driven.{Driven}
use Rattle.homeo_process.specs.Taking.{IsTaken}

-- it took the line, and what was given is appended
pub record Took (d : Driven) (line : List ℕ) (after : Driven) (old new : List ℕ) : Type 0 where
  pub written : List ℕ
  pub are : new ≡ old ++ written
  pub taken : IsTaken d line after written
