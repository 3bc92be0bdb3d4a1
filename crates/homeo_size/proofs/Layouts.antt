-- What the objects of declarations weigh, declaration by declaration.
use Rattle.std.proofs.Common.{◌≡◌, ℕ, zero, suc, ◌+◌, ◌-◌, ◌<◌, ◌≤◌, max, List, [], ◌∷◌, ◌++◌, map, drop, get_or, length, ℤ, refl, sym, ap, ap₂, ◌∙◌, arith, append-nil, append_assoc}
use Rattle.std.proofs.lemmas.Int.{clamps}
use Rattle.std.proofs.lemmas.List.{map-append}
use Rattle.std.proofs.lemmas.Simd.{map-map}
use Rattle.homeo_lemmas.proofs.Lists.{map_drop_past}
use Rattle.homeo_syntax.specs.Key.{definitions as syntax_definitions}
use Rattle.homeo_syntax.specs.SourceView.{plain_relation, plain_workload}
use Rattle.homeo_syntax.specs.declared.workload.ObjectDecl.{ObjectDecl}
use Rattle.homeo_syntax.specs.declared.workload.RangeDecl.{RangeDecl}
use Rattle.homeo_syntax.specs.declared.workload.RelationDecl.{RelationDecl}
use Rattle.homeo_syntax.specs.declared.workload.Workload.{Workload}
use Rattle.homeo_meaning.specs.Key.{definitions as meaning_definitions}
use Rattle.homeo_meaning.specs.Bounds.{Bounds, slot_bounds, relation_bounds, bounds_of, all_bounds}
use Rattle.homeo_meaning.specs.Schema.{Declared, Schema, declared_object, declared_range, declared_relation, schema_of}
use Rattle.homeo_meaning.specs.LowWeights.{number_weight}
use Rattle.homeo_size.specs.inner.Key.{definitions}
use Rattle.homeo_size.specs.inner.Laid.{relation_of, capped_weight, range_weight, object_weight, AreWeights}
use Rattle.homeo_size.specs.inner.Numbers.{weight_cap}
use Rattle.homeo_size.proofs.Along.{map_next}

pub larger : (lo hi : ℤ) → capped_weight (record { lo = lo; hi = hi }) ≡ max (weight_cap (number_weight lo)) (weight_cap (number_weight hi))
unfolding definitions meaning_definitions
larger lo hi = go (number_weight lo) (number_weight hi)
  where
    go : (m n : ℕ) → weight_cap (max m n) ≡ max (weight_cap m) (weight_cap n)
    go m n = omega (arith, clamps)

-- ---- weights
fields_weighed : (fields : List RangeDecl) (more : List Bounds) → map capped_weight (map bounds_of (map declared_range fields) ++ more) ≡ map range_weight fields ++ map capped_weight more
unfolding definitions
fields_weighed [] more = refl
fields_weighed (d ∷ ds) more = ap (λ l. range_weight d ∷ l) (fields_weighed ds more)

bounds_weighed : (fields : List RangeDecl) (left : ℕ) → map capped_weight (slot_bounds (suc left) (map declared_range fields)) ≡ 1 ∷ (map range_weight fields ++ map capped_weight (slot_bounds left (map declared_range fields)))
unfolding definitions meaning_definitions
bounds_weighed fields left = ap (λ l. 1 ∷ l) (fields_weighed fields (slot_bounds left (map declared_range fields)))

pub slot_weighed : (fields : List RangeDecl) (left : ℕ) (old new whole : List ℕ) → 0 < left → new ≡ old ++ 1 ∷ map range_weight fields → old ++ map capped_weight (slot_bounds left (map declared_range fields)) ≡ whole → new ++ map capped_weight (slot_bounds (left - 1) (map declared_range fields)) ≡ whole
slot_weighed fields zero old new whole h n r = absurd (omega arith)
slot_weighed fields (suc left) old new whole h n r =
    let less : suc left - 1 ≡ left = omega arith in
    let rest : List ℕ = map capped_weight (slot_bounds left (map declared_range fields)) in
    ap₂ (λ l m. l ++ map capped_weight (slot_bounds m (map declared_range fields))) n less
    ∙ append_assoc old (1 ∷ map range_weight fields) rest
    ∙ ap (λ l. old ++ l) (sym (bounds_weighed fields left))
    ∙ r

pub slots_weighed : (fields : List Declared) (left : ℕ) (old whole : List ℕ) → left ≤ 0 → old ++ map capped_weight (slot_bounds left fields) ≡ whole → old ≡ whole
unfolding definitions meaning_definitions
slots_weighed fields zero old whole h r = sym (append-nil old) ∙ r
slots_weighed fields (suc left) old whole h r = absurd (omega arith)

-- ---- relations
pub relation_next : (rs : List RelationDecl) (i : ℕ) (d r : RelationDecl) → i < length rs → r ≡ get_or rs i d → map relation_of (drop i rs) ≡ relation_of r ∷ map relation_of (drop (i + 1) rs)
relation_next rs i d r h p = map_next relation_of rs i d h ∙ ap (λ q. relation_of q ∷ map relation_of (drop (i + 1) rs)) (sym p)

pub relation_weighed : (rs : List RelationDecl) (i : ℕ) (d r : RelationDecl) (count : ℕ) (fields : List RangeDecl) (old new whole : List ℕ) → i < length rs → r ≡ get_or rs i d → count ≡ (relation_of r).slots → fields ≡ r.fields.items → new ≡ old ++ map capped_weight (slot_bounds count (map declared_range fields)) → old ++ map capped_weight (relation_bounds (map relation_of (drop i rs))) ≡ whole → new ++ map capped_weight (relation_bounds (map relation_of (drop (i + 1) rs))) ≡ whole
unfolding syntax_definitions meaning_definitions
relation_weighed rs i d r count fields old new whole h p c f n q =
    let more : List Bounds = relation_bounds (map relation_of (drop (i + 1) rs)) in
    ap (λ l. l ++ map capped_weight more) n
    ∙ append_assoc old (map capped_weight (slot_bounds count (map declared_range fields))) (map capped_weight more)
    ∙ ap (λ l. old ++ l) (sym (map-append capped_weight (slot_bounds count (map declared_range fields)) more) ∙ (λ j. map capped_weight (slot_bounds (c j) (map declared_range (f j)) ++ more)))
    ∙ ap (λ l. old ++ map capped_weight (relation_bounds l)) (sym (relation_next rs i d r h p))
    ∙ q

pub relations_weighed : (rs : List RelationDecl) (i : ℕ) (old whole : List ℕ) → length rs ≤ i → old ++ map capped_weight (relation_bounds (map relation_of (drop i rs))) ≡ whole → old ≡ whole
unfolding meaning_definitions
relations_weighed rs i old whole h q =
    sym (append-nil old) ∙ ap (λ l. old ++ map capped_weight (relation_bounds l)) (sym (map_drop_past relation_of rs i h)) ∙ q

-- ---- all objects
objects_weighed : (objects : List ObjectDecl) (more : List Bounds) → map object_weight objects ++ map capped_weight more ≡ map capped_weight (map bounds_of (map declared_object objects) ++ more)
unfolding definitions
objects_weighed [] more = refl
objects_weighed (d ∷ ds) more = ap (λ l. object_weight d ∷ l) (objects_weighed ds more)

pub all_weighed : (w : Workload) (x : Schema) (objects : List ObjectDecl) (rs : List RelationDecl) (begun weights : List ℕ) → x ≡ schema_of (plain_workload w) → objects ≡ w.objects.items → rs ≡ w.relations.items → begun ≡ map object_weight objects → weights ≡ begun ++ map capped_weight (relation_bounds (map relation_of rs)) → AreWeights x weights
unfolding syntax_definitions meaning_definitions
all_weighed w x objects rs begun weights e o r b h =
    h
    ∙ (λ i. (b ∙ ap (map object_weight) o) i ++ map capped_weight (relation_bounds ((ap (map relation_of) r ∙ sym (map-map declared_relation plain_relation w.relations.items)) i)))
    ∙ objects_weighed w.objects.items (relation_bounds (schema_of (plain_workload w)).relations)
    ∙ ap (λ x. map capped_weight (all_bounds x)) (sym e)
