-- The initial database is within its bounds.
use Rattle.std.proofs.Common.{◌≡◌, ℕ, zero, suc, pos, Bool, true, false, cond, List, [], ◌∷◌, map, All, refl, arith}
use Rattle.std.specs.Prelude.{int_lt}
use Rattle.std.specs.List.{flat_map}
use Rattle.std.proofs.lemmas.Int.{ints}
use Rattle.std.proofs.lemmas.List.Elements.{All-head, All-tail}
use Rattle.homeo_syntax.specs.Source as s
use Rattle.homeo_meaning.specs.Key.{definitions}
use Rattle.homeo_meaning.specs.Schema.{Declared, Relation, declared_object, schema_of}
use Rattle.homeo_meaning.specs.Bounds.{bounds_of, slot_bounds, relation_bounds, IsIn, AreIn, IsWithin}
use Rattle.homeo_meaning.specs.Initial.{nearest_zero, slot_starts, relation_starts, initial}
use Rattle.homeo_meaning.specs.NumberRules.{object_faults}
use Rattle.homeo_meaning.proofs.SoundRules.{starts_in}
use Rattle.homeo_meaning.proofs.SoundRelations.{BoundsFit}
use Rattle.homeo_meaning.proofs.Within.{are_in_both}

nearest_in : (d : Declared) → BoundsFit d → IsIn (bounds_of d) (nearest_zero d)
unfolding definitions
nearest_in d h = by_case (int_lt (pos 0) d.lo) (int_lt d.hi (pos 0)) refl refl
  where
    by_case : (a b : Bool) → int_lt (pos 0) d.lo ≡ a → int_lt d.hi (pos 0) ≡ b → IsIn (bounds_of d) (cond a d.lo (cond b d.hi (pos 0)))
    by_case true b p q = (omega (arith, ints), h.ordered)
    by_case false true p q = (h.ordered, omega (arith, ints))
    by_case false false p q = (grind (arith, ints), grind (arith, ints))

fields_in : (ds : List Declared) → All BoundsFit ds → AreIn (map bounds_of ds) (map nearest_zero ds)
unfolding definitions
fields_in [] h = tt
fields_in (d ∷ ds) h = (nearest_in d (All-head BoundsFit d ds h), fields_in ds (All-tail BoundsFit d ds h))

slots_in : (n : ℕ) (ds : List Declared) → All BoundsFit ds → AreIn (slot_bounds n ds) (slot_starts n ds)
unfolding definitions
slots_in zero ds h = tt
slots_in (suc n) ds h =
    ((omega (arith, ints), omega (arith, ints)), are_in_both (map bounds_of ds) (slot_bounds n ds) (map nearest_zero ds) (slot_starts n ds) (fields_in ds h) (slots_in n ds h))

relations_in : (rs : List Relation) → All (λ (r : Relation). All BoundsFit r.fields) rs → AreIn (relation_bounds rs) (relation_starts rs)
unfolding definitions
relations_in [] h = tt
relations_in (r ∷ rs) h =
    let P : Relation → Type 0 = λ (r : Relation). All BoundsFit r.fields in
    are_in_both (slot_bounds r.slots r.fields) (relation_bounds rs) (slot_starts r.slots r.fields) (relation_starts rs) (slots_in r.slots r.fields (All-head P r rs h)) (relations_in rs (All-tail P r rs h))

pub starts-within : (w : s.Workload) → flat_map object_faults w.objects ≡ [] → All (λ (r : Relation). All BoundsFit r.fields) (schema_of w).relations → IsWithin (schema_of w) (initial w)
unfolding definitions
starts-within w e h =
    are_in_both (map bounds_of (map declared_object w.objects)) (relation_bounds (schema_of w).relations) (map (λ d. d.start.value) w.objects) (relation_starts (schema_of w).relations) (starts_in w.objects e) (relations_in (schema_of w).relations h)
