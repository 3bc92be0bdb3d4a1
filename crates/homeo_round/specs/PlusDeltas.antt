-- Values with deltas added to them.
use Rattle.std.specs.Prelude.{List, [], ◌∷◌, ℤ, ◌+ℤ◌}
use Rattle.homeo_round.specs.Key.{definitions}

-- object by object
abbrev pub plus_deltas : List ℤ → List ℤ → List ℤ
unfolding definitions
plus_deltas [] deltas = []
plus_deltas (v ∷ values) [] = v ∷ values
plus_deltas (v ∷ values) (d ∷ deltas) = (v +ℤ d) ∷ plus_deltas values deltas
