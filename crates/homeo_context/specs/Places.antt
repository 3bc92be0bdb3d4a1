-- Tables of places by names.
use Rattle.std.specs.Prelude.{◌≡◌, ℕ, List, length, slice_index_or}
use Rattle.homeo_meaning.specs.Declarations.{place_of}

-- the first place of each name, by the name's number
abbrev pub IsTable : List ℕ → List ℕ → Type 0
IsTable names places = (n : ℕ) → slice_index_or places n (length names) ≡ place_of names n
