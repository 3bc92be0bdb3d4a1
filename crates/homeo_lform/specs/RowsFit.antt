-- That the rows in force are slots of relations, or past all objects: what a field lets through is within the bounds of
-- the object that holds it.
use Rattle.std.specs.Prelude.{◌≡◌, ℕ, true, ℤ}
use Rattle.homeo_meaning.specs.Bounds.{Bounds, all_bounds, IsIn, bounds_at}
use Rattle.homeo_meaning.specs.Context.{Spot, Context, spot, field_cell}
use Rattle.homeo_meaning.specs.Meaning.{is_within}

-- what a declaration lets through is within these bounds
abbrev pub Admits : Bounds → Spot → Type 0
Admits b f = (v : ℤ) → is_within f v ≡ true → IsIn b v

abbrev pub RowsFit : Context → Type 0
RowsFit x =
    (r f : ℕ) → Admits (bounds_at (all_bounds x.schema) (field_cell (x.rows r) f)) (spot (x.rows r).fields f)
