-- What contracts see of a database that is gathered (this project's rule).
use Rattle.std.specs.Prelude.{ℕ, ℤ, List}

-- the round and its base, the base with the deltas of the sites that were added, and how many these are
pub record GatherValue : Type 0 where
  pub round : ℕ
  pub base : List ℤ
  pub sum : List ℤ
  pub added : ℕ
