-- What the absence of faults says of relations.
use Rattle.std.proofs.Common.{◌≡◌, ◌≢◌, ℕ, ◌+◌, ◌*◌, ◌≤◌, ℤ, pos, negsuc, neg_ℤ, ◌≤ℤ◌, Bool, true, false, ◌&&◌, ◌||◌, ◌==◌, List, [], ◌∷◌, ◌++◌, map, length, All, refl, sym, ap, subst, ◌∙◌, arith, add-zero, zero-add, append-nil, append_assoc}
use Rattle.std.specs.Prelude.{int_lt, nat_le, nat_lt, AllPairs}
use Rattle.std.specs.List.{flat_map, list_any}
use Rattle.std.proofs.lemmas.Int.{ints}
use Rattle.std.proofs.lemmas.Bool.Decides.{nat_tests}
use Rattle.std.proofs.lemmas.List.{length-map}
use Rattle.std.proofs.lemmas.List.Sums.{sum_by-append}
use Rattle.std.proofs.lemmas.List.Quantifiers.{all_pairs_push}
use Rattle.std.proofs.lemmas.List.Elements.{All-nil, All-cons}
use Rattle.homeo_lemmas.proofs.Bools.{or_first, or_second}
use Rattle.homeo_lemmas.proofs.Integers.{not_less}
use Rattle.homeo_syntax.specs.Source as s
use Rattle.homeo_syntax.specs.declared.phrase.Ident.{Ident}
use Rattle.homeo_syntax.specs.declared.workload.ObjectDecl.{ObjectDecl}
use Rattle.homeo_syntax.specs.declared.workload.RangeDecl.{RangeDecl}
use Rattle.homeo_meaning.specs.Key.{definitions}
use Rattle.homeo_meaning.specs.Schema.{Declared, Relation, declared_object, declared_range, declared_relation, nat_of, schema_of}
use Rattle.homeo_meaning.specs.Context.{object_count}
use Rattle.homeo_meaning.specs.GlobalNames.{global_names}
use Rattle.homeo_meaning.specs.ListRules.{when, each_from, each, is_in, duplicate}
use Rattle.homeo_meaning.specs.NumberRules.{largest_bound, too_large, crossed, range_bounds, slot_faults, Making, object_making, relation_making, makings, made, too_many_objects, limit_faults}
use Rattle.homeo_meaning.specs.Faults.{of_relation, declared_faults}
use Rattle.homeo_meaning.specs.declared.rules.Fault.{Fault}
use Rattle.homeo_meaning.specs.declared.rules.Phase.TheVariants as F
use Rattle.homeo_meaning.proofs.FaultParts.{none_first, none_second, declared_parts, limit_parts}

-- ---- small steps
pub when_none : (b : Bool) (f : Fault) → when b (f ∷ []) ≡ [] → b ≡ false
when_none true f e = cc
when_none false f e = refl

-- each of the items that others stand for
mapped-none : {A B : Type 0} (view : A → B) (rule : A → List Fault) (P : B → Type 0) → ((x : A) → rule x ≡ [] → P (view x)) → (xs : List A) → flat_map rule xs ≡ [] → All P (map view xs)
mapped-none view rule P h [] e = All-nil P
mapped-none view rule P h (x ∷ xs) e =
    All-cons P (view x) (map view xs) (h x (none_first (rule x) (flat_map rule xs) e)) (mapped-none view rule P h xs (none_second (rule x) (flat_map rule xs) e))

-- ---- slots
pub record SlotsFit (r : Relation) : Type 0 where
  pub least : 1 ≤ r.slots
  pub most : r.slots ≤ 64

fit : (v : ℤ) → pos 1 ≤ℤ v → v ≤ℤ pos 64 → (1 ≤ nat_of v) × (nat_of v ≤ 64)
fit (pos n) h k = (grind (arith, ints), grind (arith, ints))
fit (negsuc n) h k = absurd (grind (arith, ints))

slots_here : (q : s.RelationDecl) → slot_faults q ≡ [] → SlotsFit (declared_relation q)
unfolding definitions
slots_here q e =
    let none : (int_lt q.slots.value (pos 1) || int_lt (pos 64) q.slots.value) ≡ false = when_none (int_lt q.slots.value (pos 1) || int_lt (pos 64) q.slots.value) (record { phase = F.Limits; offset = q.slots.offset }) e in
    let lo : pos 1 ≤ℤ q.slots.value = not_less q.slots.value (pos 1) (or_first (int_lt q.slots.value (pos 1)) (int_lt (pos 64) q.slots.value) none) in
    let hi : q.slots.value ≤ℤ pos 64 = not_less (pos 64) q.slots.value (or_second (int_lt q.slots.value (pos 1)) (int_lt (pos 64) q.slots.value) none) in
    let both : (1 ≤ nat_of q.slots.value) × (nat_of q.slots.value ≤ 64) = fit q.slots.value lo hi in
    record { least = both.0; most = both.1 }

-- each relation has 1 to 64 slots
pub slots-fit : (w : s.Workload) → limit_faults w ≡ [] → All SlotsFit (schema_of w).relations
unfolding definitions
slots-fit w e = mapped-none declared_relation slot_faults SlotsFit slots_here w.relations (limit_parts w e).slots

-- ---- the bounds of fields
pub record BoundsFit (d : Declared) : Type 0 where
  pub ordered : d.lo ≤ℤ d.hi
  pub low : neg_ℤ (pos 1000000000000) ≤ℤ d.lo
  pub high : d.hi ≤ℤ pos 1000000000000

range_here : (d : RangeDecl) → range_bounds d ≡ [] → BoundsFit (declared_range d)
unfolding definitions
range_here d e =
    let ends : too_large d.lo ++ too_large d.hi ≡ [] = none_first (too_large d.lo ++ too_large d.hi) (crossed d.lo d.hi) e in
    let lo : (int_lt d.lo.value (neg_ℤ largest_bound) || int_lt largest_bound d.lo.value) ≡ false = when_none (int_lt d.lo.value (neg_ℤ largest_bound) || int_lt largest_bound d.lo.value) (record { phase = F.Bounds; offset = d.lo.offset }) (none_first (too_large d.lo) (too_large d.hi) ends) in
    let hi : (int_lt d.hi.value (neg_ℤ largest_bound) || int_lt largest_bound d.hi.value) ≡ false = when_none (int_lt d.hi.value (neg_ℤ largest_bound) || int_lt largest_bound d.hi.value) (record { phase = F.Bounds; offset = d.hi.offset }) (none_second (too_large d.lo) (too_large d.hi) ends) in
    let order : int_lt d.hi.value d.lo.value ≡ false = when_none (int_lt d.hi.value d.lo.value) (record { phase = F.Bounds; offset = d.lo.offset }) (none_second (too_large d.lo ++ too_large d.hi) (crossed d.lo d.hi) e) in
    record {
      ordered = not_less d.hi.value d.lo.value order;
      low = not_less d.lo.value (neg_ℤ largest_bound) (or_first (int_lt d.lo.value (neg_ℤ largest_bound)) (int_lt largest_bound d.lo.value) lo);
      high = not_less largest_bound d.hi.value (or_second (int_lt d.hi.value (neg_ℤ largest_bound)) (int_lt largest_bound d.hi.value) hi);
    }

bounds_here : (q : s.RelationDecl) → of_relation q ≡ [] → All BoundsFit (declared_relation q).fields
unfolding definitions
bounds_here q e = mapped-none declared_range range_bounds BoundsFit range_here q.fields (none_first (flat_map range_bounds q.fields) (each duplicate (map (λ d. d.name) q.fields)) e)

-- the bounds of each field are in order, and of at most 10^12 in size
pub bounds-fit : (w : s.Workload) → declared_faults w ≡ [] → All (λ (r : Relation). All BoundsFit r.fields) (schema_of w).relations
unfolding definitions
bounds-fit w e = mapped-none declared_relation of_relation (λ (r : Relation). All BoundsFit r.fields) bounds_here w.relations (declared_parts w e).relations

-- ---- the number of objects
no_more_than : (a b : ℕ) → (nat_le a 1024 && nat_lt 1024 b) ≡ false → a ≤ 1024 → b ≤ 1024
no_more_than a b e h = grind (arith, nat_tests)

pub made_more : (before : List Making) (m : Making) → made (before ++ m ∷ []) ≡ made before + m.objects
unfolding definitions
made_more before m = sum_by-append (λ (m : Making). m.objects) before (m ∷ []) ∙ ap (λ n. made before + n) (zero-add m.objects)

within_limit : (before ms : List Making) → each_from too_many_objects before ms ≡ [] → made before ≤ 1024 → made (before ++ ms) ≤ 1024
unfolding definitions
within_limit before [] e h = subst (λ l. made l ≤ 1024) (sym (append-nil before)) h
within_limit before (m ∷ ms) e h =
    let rest : List Fault = each_from too_many_objects (before ++ m ∷ []) ms in
    let none : (nat_le (made before) 1024 && nat_lt 1024 (made before + m.objects)) ≡ false = when_none (nat_le (made before) 1024 && nat_lt 1024 (made before + m.objects)) (record { phase = F.Limits; offset = m.name.offset }) (none_first (too_many_objects before m) rest e) in
    let next : made (before ++ m ∷ []) ≤ 1024 = subst (λ n. n ≤ 1024) (sym (made_more before m)) (no_more_than (made before) (made before + m.objects) none h) in
    subst (λ l. made l ≤ 1024) (append_assoc before (m ∷ []) ms) (within_limit (before ++ m ∷ []) ms (none_second (too_many_objects before m) rest e) next)

by_relations : (before : List Making) (k : ℕ) (qs : List s.RelationDecl) → made before ≡ k → object_count k (map declared_relation qs) ≡ made (before ++ map relation_making qs)
unfolding definitions
by_relations before k [] e = sym e ∙ ap made (sym (append-nil before))
by_relations before k (q ∷ qs) e =
    by_relations (before ++ relation_making q ∷ []) (k + nat_of q.slots.value * (1 + length (map declared_range q.fields))) qs
    (made_more before (relation_making q) ∙ ap (λ n. n + nat_of q.slots.value * (1 + length q.fields)) e ∙ ap (λ n. k + nat_of q.slots.value * (1 + n)) (sym (length-map q.fields declared_range)))
    ∙ ap made (append_assoc before (relation_making q ∷ []) (map relation_making qs))

by_objects : (before : List Making) (os : List ObjectDecl) → made (before ++ map object_making os) ≡ made before + length os
unfolding definitions
by_objects before [] = ap made (append-nil before) ∙ sym (add-zero (made before))
by_objects before (o ∷ os) =
    ap made (sym (append_assoc before (object_making o ∷ []) (map object_making os)))
    ∙ by_objects (before ++ object_making o ∷ []) os
    ∙ ap (λ n. n + length os) (made_more before (object_making o))
    ∙ omega arith

-- there are at most 1,024 objects
pub objects-fit : (w : s.Workload) → limit_faults w ≡ [] → object_count (length (schema_of w).objects) (schema_of w).relations ≤ 1024
unfolding definitions
objects-fit w e =
    let few : made (makings w) ≤ 1024 = within_limit [] (makings w) (limit_parts w e).objects (omega arith) in
    let declared : made (map object_making w.objects) ≡ length (map declared_object w.objects) = by_objects [] w.objects ∙ zero-add (length w.objects) ∙ sym (length-map w.objects declared_object) in
    subst (λ n. n ≤ 1024) (sym (by_relations (map object_making w.objects) (length (map declared_object w.objects)) w.relations declared)) few

pub count_grows : (k : ℕ) (rs : List Relation) → k ≤ object_count k rs
unfolding definitions
count_grows k [] = omega arith
count_grows k (r ∷ rs) = let h : k + r.slots * (1 + length r.fields) ≤ object_count (k + r.slots * (1 + length r.fields)) rs = count_grows (k + r.slots * (1 + length r.fields)) rs in omega arith

pub few_objects : (w : s.Workload) → limit_faults w ≡ [] → length w.objects ≤ 1024
unfolding definitions
few_objects w e =
    let all : object_count (length (map declared_object w.objects)) (map declared_relation w.relations) ≤ 1024 = objects-fit w e in
    let some : length (map declared_object w.objects) ≤ object_count (length (map declared_object w.objects)) (map declared_relation w.relations) = count_grows (length (map declared_object w.objects)) (map declared_relation w.relations) in
    let same : length (map declared_object w.objects) ≡ length w.objects = length-map w.objects declared_object in
    omega arith

-- ---- names
not_there : (n : ℕ) (before : List ℕ) → is_in n before ≡ false → All (λ m. m ≢ n) before
unfolding definitions
not_there n [] e = All-nil (λ m. m ≢ n)
not_there n (m ∷ before) e =
    let other : (m == n) ≡ false = or_first (m == n) (list_any (λ k. k == n) before) e in
    All-cons (λ m. m ≢ n) m before (grind (arith, nat_tests)) (not_there n before (or_second (m == n) (list_any (λ k. k == n) before) e))

abbrev names : List Ident → List ℕ
names xs = map (λ x. x.name) xs

names_more : (before : List Ident) (x : Ident) → names (before ++ x ∷ []) ≡ names before ++ x.name ∷ []
names_more [] x = refl
names_more (y ∷ before) x = ap (λ l. y.name ∷ l) (names_more before x)

distinct_after : (before xs : List Ident) → each_from duplicate before xs ≡ [] → AllPairs (λ m n. m ≢ n) (names before) → AllPairs (λ m n. m ≢ n) (names (before ++ xs))
unfolding definitions
distinct_after before [] e h = subst (λ l. AllPairs (λ m n. m ≢ n) (names l)) (sym (append-nil before)) h
distinct_after before (x ∷ xs) e h =
    let rest : List Fault = each_from duplicate (before ++ x ∷ []) xs in
    let new : is_in x.name (names before) ≡ false = when_none (is_in x.name (names before)) (record { phase = F.Duplicate; offset = x.offset }) (none_first (duplicate before x) rest e) in
    let more : AllPairs (λ m n. m ≢ n) (names before ++ x.name ∷ []) = all_pairs_push (λ m n. m ≢ n) (names before) x.name h (not_there x.name (names before) new) in
    let next : AllPairs (λ m n. m ≢ n) (names (before ++ x ∷ [])) = subst (AllPairs (λ m n. m ≢ n)) (sym (names_more before x)) more in
    subst (λ l. AllPairs (λ m n. m ≢ n) (names l)) (append_assoc before (x ∷ []) xs) (distinct_after (before ++ x ∷ []) xs (none_second (duplicate before x) rest e) next)

none_alike : AllPairs (λ m n. m ≢ n) (names [])
none_alike i j d lt within = absurd (omega arith)

-- no name stands twice where no later one has an earlier one's
pub all-distinct : (xs : List Ident) → each duplicate xs ≡ [] → AllPairs (λ m n. m ≢ n) (names xs)
unfolding definitions
all-distinct xs e = distinct_after [] xs e none_alike

abbrev Apart : Relation → Type 0
Apart r = AllPairs (λ m n. m ≢ n) (map (λ d. d.name) r.fields)

fields_named : (ds : List RangeDecl) → map (λ (x : Ident). x.name) (map (λ (d : RangeDecl). d.name) ds) ≡ map (λ (d : Declared). d.name) (map declared_range ds)
unfolding definitions
fields_named [] = refl
fields_named (d ∷ ds) = ap (λ l. d.name.name ∷ l) (fields_named ds)

apart_here : (q : s.RelationDecl) → of_relation q ≡ [] → Apart (declared_relation q)
unfolding definitions
apart_here q e =
    let names : List Ident = map (λ (d : RangeDecl). d.name) q.fields in
    subst (AllPairs (λ m n. m ≢ n)) (fields_named q.fields) (all-distinct names (none_second (flat_map range_bounds q.fields) (each duplicate names) e))

-- no two fields of a relation have one name
pub fields-apart : (w : s.Workload) → declared_faults w ≡ [] → All (λ (r : Relation). AllPairs (λ m n. m ≢ n) (map (λ d. d.name) r.fields)) (schema_of w).relations
unfolding definitions
fields-apart w e = mapped-none declared_relation of_relation Apart apart_here w.relations (declared_parts w e).relations

-- no two global names are equal
pub globals-apart : (w : s.Workload) → each duplicate (map (λ d. d.name) (global_names w)) ≡ [] → AllPairs (λ m n. m ≢ n) (map (λ (x : Ident). x.name) (map (λ d. d.name) (global_names w)))
globals-apart w e = all-distinct (map (λ d. d.name) (global_names w)) e
