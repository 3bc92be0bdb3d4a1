-- Sets of atoms by their places.
use Rattle.std.specs.Prelude.{ℕ, List, [], slice_index_or}
use Rattle.homeo_plan.specs.Linear.{Linear}

-- the set at a place
abbrev pub set_at : List (List Linear) → ℕ → List Linear
set_at sets n = slice_index_or sets n []
