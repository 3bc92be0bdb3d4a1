-- The initial database.
use Rattle.std.specs.Prelude.{ℕ, zero, suc, List, [], ◌∷◌, ◌++◌, map, ℤ, pos, int_lt, if◌then◌else◌}
use Rattle.homeo_syntax.specs.Source as s
use Rattle.homeo_meaning.specs.Key.{definitions}
use Rattle.homeo_meaning.specs.Schema.{Declared, Relation, schema_of}

-- the value within the bounds that is nearest to 0
abbrev pub nearest_zero : Declared → ℤ
unfolding definitions
nearest_zero d = if int_lt (pos 0) d.lo then d.lo else (if int_lt d.hi (pos 0) then d.hi else pos 0)

-- of each of n slots: it is free, and its fields
abbrev pub slot_starts : ℕ → List Declared → List ℤ
unfolding definitions
slot_starts zero fields = []
slot_starts (suc n) fields = pos 0 ∷ (map nearest_zero fields ++ slot_starts n fields)

abbrev pub relation_starts : List Relation → List ℤ
unfolding definitions
relation_starts [] = []
relation_starts (r ∷ rs) = slot_starts r.slots r.fields ++ relation_starts rs

abbrev pub initial : s.Workload → List ℤ
unfolding definitions
initial w = map (λ d. d.start.value) w.objects ++ relation_starts (schema_of w).relations
