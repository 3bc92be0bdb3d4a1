-- The names of a set.
use Rattle.std.specs.Prelude.{ℕ, List, map}
use Rattle.std.specs.Borrow.{Bor}
use Rattle.indexmap.specs.IndexSet.{IndexSet}

-- the names of a set, in its order
abbrev pub plain_names : {S : Type 0} → IndexSet (Bor (List ℕ)) S → List (List ℕ)
plain_names s = map (λ k. k.now) s.keys
