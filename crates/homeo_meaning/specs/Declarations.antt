-- The declarations that names are looked up in.
use Rattle.std.specs.Prelude.{ℕ, suc, ◌==◌, cond, List, [], ◌∷◌, map}
use Rattle.homeo_syntax.specs.Source as s
use Rattle.homeo_meaning.specs.Key.{definitions}
use Rattle.homeo_meaning.specs.Schema.{Schema, schema_of}

-- the objects and relations, and the names of the transactions
pub record Declarations : Type 0 where
  pub schema : Schema
  pub transactions : List ℕ

abbrev pub declarations : s.Workload → Declarations
unfolding definitions
declarations w = record { schema = schema_of w; transactions = map (λ t. t.name.name) w.transactions }

-- the first place of a name, in a list whose first place is k: past the last where it is not there
abbrev pub place_from : ℕ → List ℕ → ℕ → ℕ
unfolding definitions
place_from k [] n = k
place_from k (m ∷ ms) n = cond (m == n) k (place_from (suc k) ms n)

abbrev pub place_of : List ℕ → ℕ → ℕ
unfolding definitions
place_of names n = place_from 0 names n
