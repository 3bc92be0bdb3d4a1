-- What a name stands for at a place of a transaction.
use Rattle.std.specs.Prelude.{ℕ, List, [], ◌∷◌, Option, Some, None, ◌==◌, if◌then◌else◌}
use Rattle.homeo_meaning.specs.Key.{definitions}
use Rattle.homeo_meaning.specs.declared.rules.Item.{Item}
use Rattle.homeo_meaning.specs.declared.rules.Local.{Local}
use Rattle.homeo_meaning.specs.declared.rules.Local.TheVariants as L
use Rattle.homeo_meaning.specs.declared.rules.Binding.{Binding}
use Rattle.homeo_meaning.specs.declared.rules.Binding.TheVariants as B

-- a row variable that holds a place, and the name of the relation that it goes over
pub record Row : Type 0 where
  pub row : ℕ
  pub relation : ℕ

-- what stands fixed in a transaction: the global names, and the names of the fields of the relation of each number
pub record Scope : Type 0 where
  pub item : ℕ → Option Item
  pub fields : ℕ → List ℕ

abbrev pub local_binding : Local → Binding
local_binding L.Absent = B.Unbound
local_binding L.Parameter = B.Parameter
local_binding L.Temporary = B.Temporary

-- the relation that the innermost row variable of a name goes over
abbrev pub row_relation : List Row → ℕ → Option ℕ
row_relation [] n = None
row_relation (r ∷ rows) n = if r.row == n then Some r.relation else row_relation rows n

abbrev pub row_or : Option ℕ → Local → Binding
row_or (Some q) l = B.Row q
row_or None l = local_binding l

abbrev pub item_or : Option Item → Binding → Binding
item_or (Some g) other = B.Item g
item_or None other = other

-- a global name is one everywhere
abbrev pub binding : Scope → (ℕ → Local) → List Row → ℕ → Binding
unfolding definitions
binding s local rows n = item_or (s.item n) (row_or (row_relation rows n) (local n))
