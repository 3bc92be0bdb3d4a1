-- The objects that the L form of a command writes, along the source.
use Rattle.std.specs.Prelude.{ℕ, List, [], ◌∷◌, ℤ, pos, Option, Some, None}
use Rattle.homeo_syntax.specs.Source.{Expr, Literal, Name, Read, Sum, Product, Neg, Field, Row, Count, Total, FieldValue, Command, Commands, Skip, Assign, Write, Print, If, Block, SetField, SetRow, Foreach, Insert, Delete, Update, Abort, NoCommand, MoreCommand}
use Rattle.homeo_meaning.specs.Schema.{Declared}
use Rattle.homeo_meaning.specs.Context.{Spot, Slot, Context, spot, cell, field_cell, object, slots, fields, bind, slot_at}
use Rattle.homeo_meaning.specs.LowWrites.{with_number}

-- of a field that is not there the literal is 0
abbrev pub absent_zero : Option Slot → Option ℤ
absent_zero None = Some (pos 0)
absent_zero (Some slot) = None

abbrev pub given_field : Option ℤ → List Slot → Option ℤ
given_field (Some v) all = absent_zero (slot_at v all)
given_field None all = None

-- the literal that an expression is lifted to, if it is lifted to one
abbrev pub given : Context → Expr → Option ℤ
given x (Literal v) = Some v
given x (Name t) = x.arguments t.name
given x (Read o) = None
given x (Sum es) = None
given x (Product es) = None
given x (Neg e) = None
given x (Field q e f) = given_field (given x e) (slots x q.name)
given x (Row r f) = None
given x (Count r q b) = None
given x (Total r f q b) = None

-- at each slot, in rising order
abbrev pub at_each : (Slot → List ℕ → List ℕ) → List Slot → List ℕ → List ℕ
at_each f [] xs = xs
at_each f (slot ∷ more) xs = at_each f more (f slot xs)

abbrev pub at_slot : Option Slot → Spot → List ℕ → List ℕ
at_slot None f xs = xs
at_slot (Some slot) f xs = with_number (cell slot f) xs

-- by an index that is a literal, or is not
abbrev pub by_index : Option ℤ → List Slot → Spot → List ℕ → List ℕ
by_index (Some v) all f xs = at_slot (slot_at v all) f xs
by_index None all f xs = at_each (λ slot. with_number (cell slot f)) all xs

abbrev pub filled : List Declared → List FieldValue → Slot → List ℕ → List ℕ
filled ds [] slot xs = with_number slot.used xs
filled ds (f ∷ fs) slot xs = filled ds fs slot (with_number (cell slot (spot ds f.field.name)) xs)

abbrev mutual
  pub writes : Context → Command → List ℕ → List ℕ
  writes x (Write o e) xs = with_number (object x o.name).place xs
  writes x (If b c d) xs = writes x d (writes x c xs)
  writes x (Block cs) xs = all_writes x cs xs
  writes x (SetField q i f e) xs = by_index (given x i) (slots x q.name) (spot (fields x q.name) f.name) xs
  writes x (SetRow r f e) xs = with_number (field_cell (x.rows r.name) f.name) xs
  writes x (Foreach r q b body) xs = at_each (λ slot. all_writes (bind x r.name slot) body) (slots x q.name) xs
  writes x (Insert q fs t) xs = at_each (filled (fields x q.name) fs) (slots x q.name) xs
  writes x (Delete r q b) xs = at_each (λ slot. with_number slot.used) (slots x q.name) xs
  writes x (Update r q b f e) xs = at_each (λ slot. with_number (field_cell slot f.name)) (slots x q.name) xs
  writes x Skip xs = xs
  writes x (Assign t e) xs = xs
  writes x (Print e) xs = xs
  writes x Abort xs = xs

  pub all_writes : Context → Commands → List ℕ → List ℕ
  all_writes x NoCommand xs = xs
  all_writes x (MoreCommand c cs) xs = all_writes x cs (writes x c xs)
