-- What a site takes the objects to be, and the places that a call can write there.
use Rattle.std.specs.Prelude.{ℕ, ℤ, ◌+ℤ◌, List, []}
use Rattle.homeo_meaning.specs.Serial.{values_of}
use Rattle.homeo_split.specs.Shape.{Shape}

-- base and own delta of each object
abbrev pub own_values : List ℤ → List ℤ → ℕ → ℤ
own_values base deltas n = values_of base n +ℤ values_of deltas n

-- so many objects, and no deltas of sites
abbrev pub own_shape : ℕ → Shape
own_shape count = record { base = count; deltas = [] }
