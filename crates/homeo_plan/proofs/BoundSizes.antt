-- No bound of a workload without a fault of declarations is larger than 10^12.
use Rattle.std.proofs.Common.{◌≡◌, ℕ, zero, suc, ◌≤◌, Bool, true, false, ◌||◌, List, [], ◌∷◌, ◌++◌, map, ℤ, int_lt, pos, neg_ℤ, refl, arith}
use Rattle.std.specs.List.{flat_map}
use Rattle.std.specs.Int.RustNames.{unsigned_abs}
use Rattle.std.proofs.lemmas.Int.{ints}
use Rattle.homeo_syntax.specs.Source as s
use Rattle.homeo_syntax.specs.declared.phrase.Number.{Number}
use Rattle.homeo_syntax.specs.declared.workload.ObjectDecl.{ObjectDecl}
use Rattle.homeo_syntax.specs.declared.workload.RangeDecl.{RangeDecl}
use Rattle.homeo_meaning.specs.Key.{definitions as meaning_definitions}
use Rattle.homeo_meaning.specs.ListRules.{when, number_fault, duplicate, each}
use Rattle.homeo_meaning.specs.declared.rules.Phase.TheVariants as F
use Rattle.homeo_meaning.specs.NumberRules.{largest_bound, too_large, crossed, range_faults, outside, object_faults, range_bounds}
use Rattle.homeo_meaning.specs.Schema.{Declared, declared_object, declared_range, declared_relation, schema_of, nat_of}
use Rattle.homeo_meaning.specs.Bounds.{Bounds, bounds_of, slot_bounds, relation_bounds, all_bounds}
use Rattle.homeo_meaning.specs.LowWeights.{bounds_weight, weight_at}
use Rattle.homeo_meaning.specs.Faults.{of_relation, declared_faults}
use Rattle.homeo_meaning.proofs.FaultParts.{none_first, none_second, NoDeclaredFault, declared_parts}
use Rattle.homeo_plan.specs.Key.{definitions}
use Rattle.homeo_plan.specs.Each.{Each}

abbrev pub most : ℕ
most = 1000000000000

abbrev IsSmallBound : Bounds → Type 0
unfolding meaning_definitions
IsSmallBound b = bounds_weight b ≤ most

each_append : (bs cs : List Bounds) → Each IsSmallBound bs → Each IsSmallBound cs → Each IsSmallBound (bs ++ cs)
unfolding definitions
each_append [] cs h k = k
each_append (b ∷ bs) cs h k = (h.0, each_append bs cs h.1 k)

in_range : (v : ℤ) (b c : Bool) → int_lt v (neg_ℤ (pos most)) ≡ b → int_lt (pos most) v ≡ c → b || c ≡ false → unsigned_abs v ≤ most
in_range v b c p q e = grind (arith, ints)

not_large : (n : Number) → too_large n ≡ [] → unsigned_abs n.value ≤ most
unfolding meaning_definitions
not_large n e = go (int_lt n.value (neg_ℤ largest_bound)) (int_lt largest_bound n.value) refl refl e
  where
    go :
        (b c : Bool) → int_lt n.value (neg_ℤ largest_bound) ≡ b → int_lt largest_bound n.value ≡ c →
        when (b || c) (number_fault F.Bounds n) ≡ [] → unsigned_abs n.value ≤ most
    go true c p q e = cc
    go false true p q e = cc
    go false false p q e = in_range n.value false false p q refl

range_small : (lo hi : Number) → range_faults lo hi ≡ [] → bounds_weight (record { lo = lo.value; hi = hi.value }) ≤ most
unfolding meaning_definitions
range_small lo hi e =
    let first : too_large lo ++ too_large hi ≡ [] = none_first (too_large lo ++ too_large hi) (crossed lo hi) e in
    let low : unsigned_abs lo.value ≤ most = not_large lo (none_first (too_large lo) (too_large hi) first) in
    let high : unsigned_abs hi.value ≤ most = not_large hi (none_second (too_large lo) (too_large hi) first) in
    omega (arith, low, high)

objects_small : (os : List ObjectDecl) → flat_map object_faults os ≡ [] → Each IsSmallBound (map bounds_of (map declared_object os))
unfolding definitions meaning_definitions
objects_small [] e = tt
objects_small (d ∷ os) e =
    let here : object_faults d ≡ [] = none_first (object_faults d) (flat_map object_faults os) e in (
      range_small d.lo d.hi (none_first (range_faults d.lo d.hi) (outside d.lo d.hi d.start) here),
      objects_small os (none_second (object_faults d) (flat_map object_faults os) e),
    )

fields_small : (ds : List RangeDecl) → flat_map range_bounds ds ≡ [] → Each IsSmallBound (map bounds_of (map declared_range ds))
unfolding definitions meaning_definitions
fields_small [] e = tt
fields_small (d ∷ ds) e = (
  range_small d.lo d.hi (none_first (range_bounds d) (flat_map range_bounds ds) e),
  fields_small ds (none_second (range_bounds d) (flat_map range_bounds ds) e),
)

slots_small : (n : ℕ) (fields : List Declared) → Each IsSmallBound (map bounds_of fields) → Each IsSmallBound (slot_bounds n fields)
unfolding definitions meaning_definitions
slots_small zero fields h = tt
slots_small (suc n) fields h =
    (omega arith, each_append (map bounds_of fields) (slot_bounds n fields) h (slots_small n fields h))

relations_small : (qs : List s.RelationDecl) → flat_map of_relation qs ≡ [] → Each IsSmallBound (relation_bounds (map declared_relation qs))
unfolding definitions meaning_definitions
relations_small [] e = tt
relations_small (q ∷ qs) e =
    let here : of_relation q ≡ [] = none_first (of_relation q) (flat_map of_relation qs) e in
    let fields : flat_map range_bounds q.fields ≡ [] = none_first (flat_map range_bounds q.fields) (each duplicate (map (λ d. d.name) q.fields)) here in
    each_append (slot_bounds (nat_of q.slots.value) (map declared_range q.fields))
    (relation_bounds (map declared_relation qs))
    (slots_small (nat_of q.slots.value) (map declared_range q.fields) (fields_small q.fields fields))
    (relations_small qs (none_second (of_relation q) (flat_map of_relation qs) e))

weights_small : (bs : List Bounds) → Each IsSmallBound bs → (n : ℕ) → weight_at bs n ≤ most
unfolding definitions meaning_definitions
weights_small [] h n = omega arith
weights_small (b ∷ bs) h zero = h.0
weights_small (b ∷ bs) h (suc n) = weights_small bs h.1 n

pub bounds_small : (w : s.Workload) → declared_faults w ≡ [] → (n : ℕ) → weight_at (all_bounds (schema_of w)) n ≤ most
unfolding definitions meaning_definitions
bounds_small w e n =
    let p : NoDeclaredFault w = declared_parts w e in
    weights_small (all_bounds (schema_of w))
    (each_append (map bounds_of (map declared_object w.objects)) (relation_bounds (map declared_relation w.relations))
    (objects_small w.objects p.objects) (relations_small w.relations p.relations))
    n
