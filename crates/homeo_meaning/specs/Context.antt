-- What stands fixed while a phrase is run: declarations, arguments and the rows in force, with the numbers of the objects.
use Rattle.homeo_meaning.specs.Key.{definitions}
use Rattle.std.specs.Prelude.{ℕ, zero, suc, ◌+◌, ◌*◌, ◌==◌, Bool, cond, List, [], ◌∷◌, length, ℤ, pos, Option, Some, None}
use Rattle.std.specs.Ordering.{int_eq}
use Rattle.homeo_meaning.specs.Schema.{Declared, Relation, Schema}

-- a declaration's place in its list, and its bounds
pub record Spot : Type 0 where
  pub place : ℕ
  pub lo : ℤ
  pub hi : ℤ

-- a slot: its number, the object that says whether it is used, and the fields, whose objects follow that one
pub record Slot : Type 0 where
  pub number : ℕ
  pub used : ℕ
  pub fields : List Declared

pub record Context : Type 0 where
  pub schema : Schema
  pub arguments : ℕ → Option ℤ
  pub rows : ℕ → Slot

-- the declaration of the name n, in a list whose first place is k
abbrev pub spot_from : ℕ → List Declared → ℕ → Spot
unfolding definitions
spot_from k [] n = record { place = k; lo = pos 0; hi = pos 0 }
spot_from k (d ∷ ds) n = cond (d.name == n) (record { place = k; lo = d.lo; hi = d.hi }) (spot_from (suc k) ds n)

abbrev pub spot : List Declared → ℕ → Spot
unfolding definitions
spot ds n = spot_from 0 ds n

-- the object that holds a field of a slot
abbrev pub cell : Slot → Spot → ℕ
unfolding definitions
cell slot f = slot.used + 1 + f.place

abbrev pub field_cell : Slot → ℕ → ℕ
unfolding definitions
field_cell slot f = cell slot (spot slot.fields f)

-- an object is numbered by its place
abbrev pub object : Context → ℕ → Spot
unfolding definitions
object x n = spot x.schema.objects n

-- n slots from number k on, the first of them at the object first
abbrev pub slots_from : ℕ → ℕ → List Declared → ℕ → List Slot
unfolding definitions
slots_from k first fields zero = []
slots_from k first fields (suc n) =
    record { number = k; used = first; fields = fields } ∷ slots_from (suc k) (first + (1 + length fields)) fields n

-- the slots of a relation, where the first of the relations begins at the object first
abbrev pub find_slots : ℕ → List Relation → ℕ → List Slot
unfolding definitions
find_slots first [] n = []
find_slots first (r ∷ rs) n =
    cond (r.name == n) (slots_from 0 first r.fields r.slots) (find_slots (first + r.slots * (1 + length r.fields)) rs n)

abbrev pub slots : Context → ℕ → List Slot
unfolding definitions
slots x n = find_slots (length x.schema.objects) x.schema.relations n

abbrev pub find_fields : List Relation → ℕ → List Declared
unfolding definitions
find_fields [] n = []
find_fields (r ∷ rs) n = cond (r.name == n) r.fields (find_fields rs n)

abbrev pub fields : Context → ℕ → List Declared
unfolding definitions
fields x n = find_fields x.schema.relations n

-- with one more row in force
abbrev pub bind : Context → ℕ → Slot → Context
unfolding definitions
bind x row slot = record { schema = x.schema; arguments = x.arguments; rows = λ n. cond (row == n) slot (x.rows n) }

abbrev pub first_where : (Slot → Bool) → List Slot → Option Slot
unfolding definitions
first_where p [] = None
first_where p (slot ∷ more) = cond (p slot) (Some slot) (first_where p more)

-- the slot with this number
abbrev pub slot_at : ℤ → List Slot → Option Slot
unfolding definitions
slot_at v all = first_where (λ slot. int_eq v (pos slot.number)) all

abbrev pub arguments_of : List ℕ → List ℤ → ℕ → Option ℤ
unfolding definitions
arguments_of [] vs n = None
arguments_of (p ∷ ps) [] n = None
arguments_of (p ∷ ps) (v ∷ vs) n = cond (p == n) (Some v) (arguments_of ps vs n)

abbrev pub object_count : ℕ → List Relation → ℕ
unfolding definitions
object_count k [] = k
object_count k (r ∷ rs) = object_count (k + r.slots * (1 + length r.fields)) rs

-- the context of a call's body, with no row in force: where there is none, a slot past all objects
abbrev pub context : Schema → List ℕ → List ℤ → Context
unfolding definitions
context x params args =
    record { schema = x; arguments = arguments_of params args; rows = λ n. record { number = 0; used = object_count (length x.objects) x.relations; fields = [] } }
