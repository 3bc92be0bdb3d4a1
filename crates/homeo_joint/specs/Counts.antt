-- The choices of one row of each of some tables, and where there are too many.
use Rattle.std.specs.Prelude.{◌≡◌, ℕ, ℤ, pos, ◌+◌, ◌*◌, ◌<◌, ◌≤◌, List, [], ◌∷◌, map, take, length}
use Rattle.homeo_plan.specs.Joint.{joint_picks}
use Rattle.homeo_plan.specs.Table as table

abbrev pub product_of : List ℕ → ℕ
product_of [] = 1
product_of (n ∷ ns) = n * product_of ns

-- the most rows that a joint table may have
abbrev pub row_limit : ℕ
row_limit = 1024

-- these are the picks of the rows of each joint table whose tables have so many rows
abbrev pub ArePicks : List ℕ → List (List ℤ) → Type 0
ArePicks counts picks = (tables : List (List table.Row)) → map length tables ≡ counts → picks ≡ map (map pos) (joint_picks tables)

-- up to this place, and not before it, the product of numbers exceeds the limit: it is p there
pub record IsFirstOver (limit : ℕ) (ns : List ℕ) (place p : ℕ) : Type 0 where
  pub exists : place < length ns
  pub value : p ≡ product_of (take (place + 1) ns)
  pub over : limit < p
  pub before : product_of (take place ns) ≤ limit
