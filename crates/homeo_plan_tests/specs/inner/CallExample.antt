-- A database at two sites that have not written yet.
use Rattle.std.specs.Prelude.{◌≡◌, ℤ, pos, List, [], ◌∷◌, map, length, replicate}
use Rattle.homeo_split.specs.declared.split.Split.{Split}

abbrev pub zeros : List ℤ → List ℤ
zeros database = replicate (length database) (pos 0)

-- the values are the base, and the deltas of both sites are 0
pub record IsUndivided (database : List ℤ) (s : Split) : Type 0 where
  pub base : s.base.items ≡ database
  pub deltas : map (λ d. d.items) s.deltas.items ≡ zeros database ∷ zeros database ∷ []
