-- The numbers of objects and their bounds agree.
use Rattle.std.proofs.Common.{◌≡◌, ℕ, zero, suc, ◌+◌, ◌*◌, ◌==◌, Bool, true, false, cond, ◌&&◌, List, [], ◌∷◌, ◌++◌, map, length, ℤ, pos, int_le, ◌≤ℤ◌, Option, Some, None, refl, sym, ap, ◌∙◌, subst, append_assoc, length-append, arith}
use Rattle.std.proofs.lemmas.List.{length-map}
use Rattle.std.proofs.lemmas.Int.{ints}
use Rattle.homeo_meaning.specs.Key.{definitions}
use Rattle.homeo_meaning.specs.Schema.{Declared, Relation, Schema}
use Rattle.homeo_meaning.specs.Context.{Spot, Slot, Context, spot_from, spot, cell, field_cell, object, slots_from, find_slots, slots, find_fields, fields, first_where, object_count}
use Rattle.homeo_meaning.specs.Bounds.{Bounds, bounds_of, slot_bounds, relation_bounds, all_bounds, IsIn, bounds_at}
use Rattle.homeo_meaning.specs.Meaning.{is_within}
use Rattle.homeo_lform.specs.RowsFit.{Admits}

abbrev pub Each : {X : Type 0} → (X → Type 0) → List X → Type 0
Each P [] = Unit {0}
Each P (x ∷ xs) = P x × Each P xs

abbrev pub ForSome : {X : Type 0} → (X → Type 0) → Option X → Type 0
ForSome P None = Unit {0}
ForSome P (Some x) = P x

pub each_first : (P : Slot → Type 0) (p : Slot → Bool) (all : List Slot) → Each P all → ForSome P (first_where p all)
unfolding definitions
each_first P p [] h = tt
each_first P p (slot ∷ more) h = go (p slot) (each_first P p more h.1)
  where
    go : (b : Bool) → ForSome P (first_where p more) → ForSome P (cond b (Some slot) (first_where p more))
    go true k = h.0
    go false k = k

within_lo : (f : Spot) (v : ℤ) → is_within f v ≡ true → (f.lo ≤ℤ v) × (v ≤ℤ f.hi)
unfolding definitions
within_lo f v e = go (int_le f.lo v) (int_le v f.hi) refl refl e
  where
    go : (a b : Bool) → int_le f.lo v ≡ a → int_le v f.hi ≡ b → a && b ≡ true → (f.lo ≤ℤ v) × (v ≤ℤ f.hi)
    go true true p q e = (omega (arith, ints), omega (arith, ints))
    go true false p q e = grind arith
    go false b p q e = grind arith

-- the bounds at n and after are those of the list
abbrev Begins : (ℕ → Bounds) → ℕ → List Bounds → Type 0
Begins g n bs = (k : ℕ) → g (n + k) ≡ bounds_at bs k

-- a list whose first bounds hold 0
abbrev HoldsZero : List Bounds → Type 0
HoldsZero bs = IsIn (bounds_at bs 0) (pos 0)

begins_next : (g : ℕ → Bounds) (n : ℕ) (b : Bounds) (bs : List Bounds) → Begins g n (b ∷ bs) → Begins g (suc n) bs
unfolding definitions
begins_next g n b bs h k = let e : suc n + k ≡ n + suc k = omega arith in ap g e ∙ h (suc k)

begins_after : (g : ℕ → Bounds) (n m : ℕ) (bs cs : List Bounds) → n + length bs ≡ m → Begins g n (bs ++ cs) → Begins g m cs
unfolding definitions
begins_after g n m [] cs e h = subst (λ i. Begins g i cs) (let f : n ≡ m = omega arith in f) h
begins_after g n m (b ∷ bs) cs e h = begins_after g (suc n) m bs cs (omega arith) (begins_next g n b (bs ++ cs) h)

begins_here : (g : ℕ → Bounds) (n : ℕ) (bs : List Bounds) → Begins g n bs → g n ≡ bounds_at bs 0
unfolding definitions
begins_here g n bs h = let e : n ≡ n + 0 = omega arith in ap g e ∙ h 0

spot_admits : (g : ℕ → Bounds) (n : ℕ) (ds : List Declared) (rest : List Bounds) (x : ℕ) → Begins g n (map bounds_of ds ++ rest) → HoldsZero rest → Admits (g (spot_from n ds x).place) (spot_from n ds x)
unfolding definitions
spot_admits g n [] rest x h z = λ v e.
    let k = within_lo (record { place = n; lo = pos 0; hi = pos 0 }) v e in
    let zero_is : pos 0 ≡ v = omega (arith, ints, k.0, k.1) in
    subst (λ b. IsIn b v) (sym (begins_here g n rest h)) (subst (IsIn (bounds_at rest 0)) zero_is z)
spot_admits g n (d ∷ ds) rest x h z =
    go (d.name == x) (spot_admits g (suc n) ds rest x (begins_next g n (bounds_of d) (map bounds_of ds ++ rest) h) z)
  where
    go : (b : Bool)
        → Admits (g (spot_from (suc n) ds x).place) (spot_from (suc n) ds x)
        → Admits (g (cond b (record { place = n; lo = d.lo; hi = d.hi }) (spot_from (suc n) ds x)).place) (cond b (record { place = n; lo = d.lo; hi = d.hi }) (spot_from (suc n) ds x))
    go true ih = λ v e. subst (λ b. IsIn b v) (sym (begins_here g n (map bounds_of (d ∷ ds) ++ rest) h)) (within_lo (record { place = n; lo = d.lo; hi = d.hi }) v e)
    go false ih = ih

-- ---- the slots of a relation
-- the slot's used is 0 or 1, and its fields have the bounds of their declarations ds
pub record SlotFits (g : ℕ → Bounds) (ds : List Declared) (slot : Slot) : Type 0 where
  pub used : (v : ℤ) → pos 0 ≤ℤ v → v ≤ℤ pos 1 → IsIn (g slot.used) v
  pub field : (x : ℕ) → Admits (g (cell slot (spot ds x))) (spot ds x)
  pub own : (x : ℕ) → Admits (g (field_cell slot x)) (spot slot.fields x)

slot_fits : (g : ℕ → Bounds) (k first : ℕ) (ds : List Declared) (rest : List Bounds) → Begins g first (record { lo = pos 0; hi = pos 1 } ∷ (map bounds_of ds ++ rest)) → HoldsZero rest → SlotFits g ds (record { number = k; used = first; fields = ds })
unfolding definitions
slot_fits g k first ds rest h z =
    let own : (x : ℕ) → Admits (g (first + 1 + (spot ds x).place)) (spot ds x) = λ x.
    spot_admits (λ i. g (first + 1 + i)) 0 ds rest x (λ i. let e : first + 1 + (0 + i) ≡ first + suc i = omega arith in ap g e ∙ h (suc i)) z in
    record {
      used = λ v lo hi. subst (λ b. IsIn b v) (sym (begins_here g first (record { lo = pos 0; hi = pos 1 } ∷ (map bounds_of ds ++ rest)) h)) (lo, hi);
      field = own;
      own = own;
    }

slots_zero : (n : ℕ) (ds : List Declared) (rest : List Bounds) → HoldsZero rest → HoldsZero (slot_bounds n ds ++ rest)
unfolding definitions
slots_zero zero ds rest z = z
slots_zero (suc n) ds rest z = (omega (arith, ints), omega (arith, ints))

relations_zero : (rs : List Relation) → HoldsZero (relation_bounds rs)
unfolding definitions
relations_zero [] = (omega (arith, ints), omega (arith, ints))
relations_zero (r ∷ rs) = slots_zero r.slots r.fields (relation_bounds rs) (relations_zero rs)

all_fit : (g : ℕ → Bounds) (k first : ℕ) (ds : List Declared) (n : ℕ) (rest : List Bounds) → Begins g first (slot_bounds n ds ++ rest) → HoldsZero rest → Each (SlotFits g ds) (slots_from k first ds n)
unfolding definitions
all_fit g k first ds zero rest h z = tt
all_fit g k first ds (suc n) rest h z =
    let more = slot_bounds n ds ++ rest in
    let split : Begins g first (record { lo = pos 0; hi = pos 1 } ∷ (map bounds_of ds ++ more)) = λ i. h i ∙ ap (λ (bs : List Bounds). bounds_at (record { lo = pos 0; hi = pos 1 } ∷ bs) i) (append_assoc (map bounds_of ds) (slot_bounds n ds) rest) in (
      slot_fits g k first ds more split (slots_zero n ds rest z),
      all_fit g (suc k) (first + (1 + length ds)) ds n rest
          (begins_after g (suc first) (first + (1 + length ds)) (map bounds_of ds) more (omega (arith, length-map ds bounds_of)) (begins_next g first (record { lo = pos 0; hi = pos 1 }) (map bounds_of ds ++ more) split)) z,
    )

pub slots_length : (n : ℕ) (ds : List Declared) → length (slot_bounds n ds) ≡ n * (1 + length ds)
unfolding definitions
slots_length zero ds = omega arith
slots_length (suc n) ds =
    let ih = slots_length n ds in
    let a : length (map bounds_of ds ++ slot_bounds n ds) ≡ length (map bounds_of ds) + length (slot_bounds n ds) = length-append _ _ in
    omega (arith, ih, a, length-map ds bounds_of)

found_fit : (g : ℕ → Bounds) (first : ℕ) (rs : List Relation) (x : ℕ) → Begins g first (relation_bounds rs) → Each (SlotFits g (find_fields rs x)) (find_slots first rs x)
unfolding definitions
found_fit g first [] x h = tt
found_fit g first (r ∷ rs) x h =
    go (r.name == x) (all_fit g 0 first r.fields r.slots (relation_bounds rs) h (relations_zero rs))
    (found_fit g next rs x (begins_after g first next (slot_bounds r.slots r.fields) (relation_bounds rs) (omega (arith, slots_length r.slots r.fields)) h))
  where
    next : ℕ
    next = first + r.slots * (1 + length r.fields)

    go : (b : Bool)
        → Each (SlotFits g r.fields) (slots_from 0 first r.fields r.slots)
        → Each (SlotFits g (find_fields rs x)) (find_slots next rs x)
        → Each (SlotFits g (cond b r.fields (find_fields rs x))) (cond b (slots_from 0 first r.fields r.slots) (find_slots next rs x))
    go true p q = p
    go false p q = q

count_end : (g : ℕ → Bounds) (first : ℕ) (rs : List Relation) → Begins g first (relation_bounds rs) → Begins g (object_count first rs) []
unfolding definitions
count_end g first [] h = h
count_end g first (r ∷ rs) h =
    let next = first + r.slots * (1 + length r.fields) in
    count_end g next rs (begins_after g first next (slot_bounds r.slots r.fields) (relation_bounds rs) (omega (arith, slots_length r.slots r.fields)) h)

-- ---- the declarations of a workload
abbrev pub all_at : Schema → ℕ → Bounds
all_at w x = bounds_at (all_bounds w) x

relations_begin : (w : Schema) → Begins (all_at w) (length w.objects) (relation_bounds w.relations)
unfolding definitions
relations_begin w =
    begins_after (all_at w) 0 (length w.objects) (map bounds_of w.objects) (relation_bounds w.relations) (omega (arith, length-map w.objects bounds_of)) (λ k. let e : 0 + k ≡ k = omega arith in ap (all_at w) e)

pub slots_fit : (w : Context) (q : ℕ) → Each (SlotFits (all_at w.schema) (fields w q)) (slots w q)
unfolding definitions
slots_fit w q = found_fit (all_at w.schema) (length w.schema.objects) w.schema.relations q (relations_begin w.schema)

pub object_admits : (w : Context) (x : ℕ) → Admits (all_at w.schema (object w x).place) (object w x)
unfolding definitions
object_admits w x =
    spot_admits (all_at w.schema) 0 w.schema.objects (relation_bounds w.schema.relations) x (λ k. let e : 0 + k ≡ k = omega arith in ap (all_at w.schema) e) (relations_zero w.schema.relations)

-- no row in force
pub no_row_fits : (w : Schema) (x : ℕ) → let slot : Slot = record { number = 0; used = object_count (length w.objects) w.relations; fields = [] } in Admits (all_at w (field_cell slot x)) (spot slot.fields x)
unfolding definitions
no_row_fits w x =
    let last = object_count (length w.objects) w.relations in
    let h = count_end (all_at w) (length w.objects) w.relations (relations_begin w) in
    spot_admits (λ i. all_at w (last + 1 + i)) 0 [] [] x (λ i. let e : last + 1 + (0 + i) ≡ last + suc i = omega arith in ap (all_at w) e ∙ h (suc i)) (omega (arith, ints), omega (arith, ints))

pub relations_count : (k : ℕ) (rs : List Relation) → k + length (relation_bounds rs) ≡ object_count k rs
unfolding definitions
relations_count k [] = omega arith
relations_count k (r ∷ rs) =
    let both : length (slot_bounds r.slots r.fields ++ relation_bounds rs) ≡ length (slot_bounds r.slots r.fields) + length (relation_bounds rs) = length-append _ _ in
    let rest = relations_count (k + r.slots * (1 + length r.fields)) rs in
    omega (arith, both, slots_length r.slots r.fields, rest)

-- how many objects there are
pub bounds_count : (w : Schema) → length (all_bounds w) ≡ object_count (length w.objects) w.relations
unfolding definitions
bounds_count w =
    length-append (map bounds_of w.objects) (relation_bounds w.relations)
    ∙ ap (λ n. n + length (relation_bounds w.relations)) (length-map w.objects bounds_of)
    ∙ relations_count (length w.objects) w.relations
