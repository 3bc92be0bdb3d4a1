-- Ground calls, and which of them each call is.
use Rattle.std.specs.Prelude.{ℕ, List}
use Rattle.homeo_meaning.specs.Ground.{Ground}

-- ground calls, and by client the place of each of its calls among them
pub record GroundTable : Type 0 where
  pub calls : List Ground
  pub places : List (List ℕ)
