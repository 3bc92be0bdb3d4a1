-- The bounds of every object, in the order of their numbers: declared objects first, then the relations, slot by slot.
use Rattle.std.specs.Prelude.{ℕ, zero, suc, List, [], ◌∷◌, ◌++◌, map, ℤ, pos, ◌≤ℤ◌}
use Rattle.homeo_meaning.specs.Key.{definitions}
use Rattle.homeo_meaning.specs.Schema.{Declared, Relation, Schema}

pub record Bounds : Type 0 where
  pub lo : ℤ
  pub hi : ℤ

abbrev pub bounds_of : Declared → Bounds
unfolding definitions
bounds_of d = record { lo = d.lo; hi = d.hi }

-- of each of n slots: whether it is used, and then its fields
abbrev pub slot_bounds : ℕ → List Declared → List Bounds
unfolding definitions
slot_bounds zero fields = []
slot_bounds (suc n) fields = record { lo = pos 0; hi = pos 1 } ∷ (map bounds_of fields ++ slot_bounds n fields)

abbrev pub relation_bounds : List Relation → List Bounds
unfolding definitions
relation_bounds [] = []
relation_bounds (r ∷ rs) = slot_bounds r.slots r.fields ++ relation_bounds rs

abbrev pub all_bounds : Schema → List Bounds
unfolding definitions
all_bounds x = map bounds_of x.objects ++ relation_bounds x.relations

abbrev pub IsIn : Bounds → ℤ → Type 0
unfolding definitions
IsIn b v = (b.lo ≤ℤ v) × (v ≤ℤ b.hi)

-- a value for each of the bounds, and each within its own
abbrev pub AreIn : List Bounds → List ℤ → Type 0
AreIn [] [] = Unit {0}
AreIn [] (v ∷ vs) = ⊥
AreIn (b ∷ bs) [] = ⊥
AreIn (b ∷ bs) (v ∷ vs) = IsIn b v × AreIn bs vs

-- a database within bounds: a value for each object, and each within the object's bounds
abbrev pub IsWithin : Schema → List ℤ → Type 0
unfolding definitions
IsWithin x d = AreIn (all_bounds x) d

-- the bounds of the object of a number: 0 and 0 past the last
abbrev pub bounds_at : List Bounds → ℕ → Bounds
unfolding definitions
bounds_at [] n = record { lo = pos 0; hi = pos 0 }
bounds_at (b ∷ bs) zero = b
bounds_at (b ∷ bs) (suc n) = bounds_at bs n

-- each object's value is within its bounds, and past the last object there is 0
abbrev pub AllWithin : Schema → (ℕ → ℤ) → Type 0
unfolding definitions
AllWithin x values = (n : ℕ) → IsIn (bounds_at (all_bounds x) n) (values n)
