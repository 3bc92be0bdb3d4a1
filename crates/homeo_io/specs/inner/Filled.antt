-- What reading into a buffer took of a source's bytes, where it failed.
use Rattle.std.specs.Prelude.{◌<◌, ℕ, List, length}
use Rattle.std.specs.declared.option.Option.{Option}
use Rattle.std.specs.Io.KnownBytes.{Consumes}

-- what is left is a suffix of what was left, and fewer than n bytes were taken
abbrev pub GaveLess : Option (List ℕ) → Option (List ℕ) → ℕ → Type 0
GaveLess old new n = (bytes : List ℕ) × (length bytes < n) × Consumes old new bytes
