-- The L form of a call of an accepted workload names only objects and names that there are.
use Rattle.std.proofs.Common.{◌≡◌, ℕ, zero, suc, ◌+◌, ◌*◌, ◌<◌, ◌≤◌, ◌==◌, Bool, true, false, cond, ◌||◌, List, [], ◌∷◌, map, length, ℤ, Option, Some, None, refl, sym, subst, arith}
use Rattle.std.specs.Prelude.{slice_get}
use Rattle.std.specs.List.{flat_map}
use Rattle.homeo_syntax.specs.declared.low.SplitName.{SplitName}
use Rattle.homeo_syntax.specs.declared.low.SplitName.TheVariants as split
use Rattle.homeo_syntax.specs.declared.phrase.Ident.{Ident}
use Rattle.homeo_syntax.specs.Source as s
use Rattle.homeo_syntax.specs.Key.{definitions as syntax_definitions}
use Rattle.homeo_syntax.specs.WellFormed as f
use Rattle.homeo_syntax.specs.WellFormed.{IsBelow}
use Rattle.homeo_meaning.specs.Key.{definitions}
use Rattle.homeo_meaning.specs.declared.call.Purpose.TheVariants.{Run}
use Rattle.homeo_meaning.specs.declared.rules.Fault.{Fault}
use Rattle.homeo_meaning.specs.declared.rules.Item.TheVariants as I
use Rattle.homeo_meaning.specs.Schema.{Declared, Relation, Schema, schema_of}
use Rattle.homeo_meaning.specs.Context.{Spot, Slot, Context, spot_from, spot, cell, field_cell, object, slots_from, find_slots, slots, find_fields, fields, bind, object_count, context}
use Rattle.homeo_meaning.specs.Bounds.{all_bounds}
use Rattle.homeo_meaning.specs.Bindings as b
use Rattle.homeo_meaning.specs.Bindings.{Scope, row_relation}
use Rattle.homeo_meaning.specs.Occurrences.{at, within, TakesField, in_commands}
use Rattle.homeo_meaning.specs.ListRules.{is_in}
use Rattle.homeo_meaning.specs.Aborts.{hold_abort}
use Rattle.homeo_meaning.specs.LowWrites.{object_in}
use Rattle.homeo_meaning.specs.NumberRules.{range_bounds}
use Rattle.homeo_meaning.specs.GlobalNames.{scope_of}
use Rattle.homeo_meaning.specs.TransactionRules.{transaction_faults}
use Rattle.homeo_meaning.specs.Faults.{of_transaction}
use Rattle.homeo_meaning.specs.Ground.{Ground}
use Rattle.homeo_meaning.specs.CallForm.{body_form, ground_form}
use Rattle.homeo_meaning.specs.Acceptance.{IsAccepted}
use Rattle.homeo_meaning.specs.NamesWithin.{ObjectWithin, TempWithin, NamesWithin}
use Rattle.homeo_meaning.proofs.FaultParts.{none_first, none_second, parts, declared_parts}
use Rattle.homeo_meaning.proofs.SoundRelations.{count_grows}
use Rattle.homeo_lform.proofs.Known.{Clean, body_clean, Numbered, object_taken, relation_taken, FieldNamed, field_named, AllNumbered, RowFieldNamed, row_field_named, AllFieldsNamed, all_fields_named, IsAmong, object_among, same_fields}
use Rattle.homeo_lform.proofs.Bodies.{last_number, body_in}
use Rattle.homeo_lform.proofs.Gives.{Gives}
use Rattle.homeo_lform.proofs.ObjectBounds.{Each, bounds_count}

-- ---- objects by their names
spot_below : (k : ℕ) (ds : List Declared) (n : ℕ) → IsAmong n ds → (spot_from k ds n).place < k + length ds
unfolding definitions
spot_below k [] n h = cc
spot_below k (d ∷ ds) n h = by_case (d.name == n) (spot_below (suc k) ds n) h
  where
    by_case : (b : Bool)
        → (IsAmong n ds → (spot_from (suc k) ds n).place < suc k + length ds)
        → (b || is_in n (map (λ (d : Declared). d.name) ds)) ≡ true
        → (cond b (record { place = k; lo = d.lo; hi = d.hi }) (spot_from (suc k) ds n)).place < k + length (d ∷ ds)
    by_case true rest e = omega arith
    by_case false rest e = omega (arith, rest e)

-- a slot with these fields, and its objects
record SlotBelow (objects : ℕ) (ds : List Declared) (slot : Slot) : Type 0 where
  room : slot.used + (1 + length ds) ≤ objects
  own : slot.fields ≡ ds

slots_below : (objects k first : ℕ) (ds : List Declared) (n : ℕ) → first + n * (1 + length ds) ≤ objects → Each (SlotBelow objects ds) (slots_from k first ds n)
unfolding definitions
slots_below objects k first ds zero h = tt
slots_below objects k first ds (suc n) h =
    let next : first + (1 + length ds) + n * (1 + length ds) ≤ objects = omega arith in
    (record { room = omega arith; own = refl }, slots_below objects (suc k) (first + (1 + length ds)) ds n next)

found_below : (first : ℕ) (rs : List Relation) (q : ℕ) → Each (SlotBelow (object_count first rs) (find_fields rs q)) (find_slots first rs q)
unfolding definitions
found_below first [] q = tt
found_below first (r ∷ rs) q = by_case (r.name == q) (found_below next rs q)
  where
    next : ℕ
    next = first + r.slots * (1 + length r.fields)

    by_case : (b : Bool)
        → Each (SlotBelow (object_count next rs) (find_fields rs q)) (find_slots next rs q)
        → Each (SlotBelow (object_count next rs) (cond b r.fields (find_fields rs q))) (cond b (slots_from 0 first r.fields r.slots) (find_slots next rs q))
    by_case true rest = slots_below (object_count next rs) 0 first r.fields r.slots (count_grows next rs)
    by_case false rest = rest

-- what is known where a phrase stands: the objects that its names name are below the number of objects
record Stands (sc : Scope) (objects : ℕ) (rows : List b.Row) (x : Context) : Type 0 where
  one_object : (n k : ℕ) → sc.item n ≡ Some (I.Object k) → (object x n).place < objects
  alike : (n k : ℕ) → sc.item n ≡ Some (I.Relation k) → sc.fields k ≡ map (λ (d : Declared). d.name) (fields x n)
  all_slots : (q : ℕ) → Each (SlotBelow objects (fields x q)) (slots x q)
  numbered : AllNumbered sc rows
  row : (n q : ℕ) → row_relation rows n ≡ Some q → SlotBelow objects (fields x q) (x.rows n)

module _ (sc : Scope) (objects names : ℕ) where
  stands_in : (rows : List b.Row) (x : Context) (r q : Ident) (slot : Slot) → Stands sc objects rows x → Numbered sc q.name
      → SlotBelow objects (fields x q.name) slot → Stands sc objects (within r q rows) (bind x r.name slot)
  unfolding definitions
  stands_in rows x r q slot h k below =
      record {
        one_object = h.one_object;
        alike = h.alike;
        all_slots = h.all_slots;
        numbered = (k, h.numbered);
        row = λ n p. by_case n p (r.name == n) (h.row n p);
      }
    where
      by_case : (n p : ℕ) (b : Bool)
          → (row_relation rows n ≡ Some p → SlotBelow objects (fields x p) (x.rows n))
          → cond b (Some q.name) (row_relation rows n) ≡ Some p
          → SlotBelow objects (fields x p) (cond b slot (x.rows n))
      by_case n p true rest e = let same : q.name ≡ p = cc in subst (λ m. SlotBelow objects (fields x m) slot) same below
      by_case n p false rest e = rest e

  field_below : (rows : List b.Row) (x : Context) (q f : ℕ) → Stands sc objects rows x → FieldNamed sc q f → (spot (fields x q) f).place < length (fields x q)
  unfolding definitions
  field_below rows x q f h k =
      let among : IsAmong f (fields x q) = subst (λ l. is_in f l ≡ true) (h.alike q k.relation.number k.relation.is) k.field in
      omega (arith, spot_below 0 (fields x q) f among)

  cell_below : (ds : List Declared) (slot : Slot) (f : Spot) → SlotBelow objects ds slot → f.place < length ds → cell slot f < objects
  unfolding definitions
  cell_below ds slot f h below = omega (arith, h.room)

  own_below : (ds : List Declared) (slot : Slot) (f : ℕ) → SlotBelow objects ds slot → (spot ds f).place < length ds → field_cell slot f < objects
  unfolding definitions
  own_below ds slot f h below = cell_below ds slot (spot slot.fields f) h (subst (λ l. (spot l f).place < length ds) (sym h.own) below)

  row_below : (rows : List b.Row) (x : Context) (r f : Ident) → Stands sc objects rows x → Clean sc (at rows (TakesField r f))
      → field_cell (x.rows r.name) f.name < objects
  unfolding definitions
  row_below rows x r f h c =
      let is : RowFieldNamed sc rows r.name f.name = row_field_named sc rows r f h.numbered c in
      own_below (fields x is.relation) (x.rows r.name) f.name (h.row r.name is.relation is.in_force) (field_below rows x is.relation f.name h is.field)

  used_below : (ds : List Declared) (slot : Slot) → SlotBelow objects ds slot → slot.used < objects
  used_below ds slot h = omega (arith, h.room)

  fields_below : (rows : List b.Row) (x : Context) (q : ℕ) (fs : List s.FieldValue) → Stands sc objects rows x → AllFieldsNamed sc q fs
      → Each (λ (f : s.FieldValue). (slot : Slot) → SlotBelow objects (fields x q) slot → cell slot (spot (fields x q) f.field.name) < objects) fs
  unfolding definitions
  fields_below rows x q [] h named = tt
  fields_below rows x q (f ∷ fs) h named = (
    λ slot below. cell_below (fields x q) slot (spot (fields x q) f.field.name) below (field_below rows x q f.field.name h named.0),
    fields_below rows x q fs h named.1,
  )

  gives : Gives (ObjectWithin objects names) (TempWithin objects names) (Stands sc objects) (Clean sc) (IsBelow names) (λ x q slot. SlotBelow objects (fields x q) slot)
  unfolding definitions syntax_definitions
  gives =
      record {
        named = λ t h. h;
        one_object = λ rows x o h c. let is = object_taken sc rows o c in h.one_object o.name is.0 is.1;
        row_field = row_below;
        all_slots = λ rows x q h. h.all_slots q;
        used = λ x q slot below. used_below (fields x q) slot below;
        field = λ rows inner x q f h c d slot below.
            let named : FieldNamed sc q.name f.name = field_named sc inner q f (relation_taken sc inner q c) d in
            let there = field_below rows x q.name f.name h named in
            (cell_below (fields x q.name) slot (spot (fields x q.name) f.name) below there, own_below (fields x q.name) slot f.name below there);
        filled = λ rows x q fs h c d. fields_below rows x q.name fs h (all_fields_named sc rows q fs (relation_taken sc rows q c) d);
        bound = λ rows inner x r q slot h c below. stands_in rows x r q slot h (relation_taken sc inner q c) below;
      }

  object_of : (x : SplitName) → ObjectWithin objects names x → object_in x < objects
  unfolding definitions
  object_of (split.Whole x) h = h
  object_of (split.Base x) h = h
  object_of (split.Delta x j) h = h

-- ---- a body of an accepted workload
stands : (w : s.Workload) (params : List ℕ) (args : List ℤ) → Stands (scope_of w) (length (all_bounds (schema_of w))) [] (context (schema_of w) params args)
unfolding definitions
stands w params args =
    let x : Schema = schema_of w in
    let count : length (all_bounds x) ≡ object_count (length x.objects) x.relations = bounds_count x in
    record {
      one_object = λ n k e. let place : (spot x.objects n).place < 0 + length x.objects = spot_below 0 x.objects n (object_among w n k e) in omega
          (arith, count, count_grows (length x.objects) x.relations);
      alike = same_fields w;
      all_slots = λ q. subst (λ m. Each (SlotBelow m (find_fields x.relations q)) (find_slots (length x.objects) x.relations q)) (sym count)
          (found_below (length x.objects) x.relations q);
      numbered = tt;
      row = λ n q e. cc;
    }

none_at : {A : Type 0} (rule : A → List Fault) (xs : List A) (i : ℕ) (a : A) → flat_map rule xs ≡ [] → slice_get xs i ≡ Some a → rule a ≡ []
none_at rule [] i a e h = cc
none_at rule (x ∷ xs) zero a e h = let same : x ≡ a = cc in subst (λ y. rule y ≡ []) same (none_first (rule x) (flat_map rule xs) e)
none_at rule (x ∷ xs) (suc i) a e h = none_at rule xs i a (none_second (rule x) (flat_map rule xs) e) h

each_at : {A : Type 0} (P : A → Type 0) (xs : List A) (i : ℕ) (a : A) → f.Each P xs → slice_get xs i ≡ Some a → P a
unfolding definitions syntax_definitions
each_at P [] i a h e = cc
each_at P (x ∷ xs) zero a h e = let same : x ≡ a = cc in subst P same h.0
each_at P (x ∷ xs) (suc i) a h e = each_at P xs i a h.1 e

-- whatever its arguments are
pub named_law : (w : s.Workload) (g : Ground) → IsAccepted w → NamesWithin (length (all_bounds (schema_of w))) (length w.names) (ground_form w g)
unfolding definitions syntax_definitions
named_law w g a = by_case (slice_get w.transactions g.transaction) refl
  where
    by_case : (o : Option s.Transaction) → slice_get w.transactions g.transaction ≡ o
        → NamesWithin (length (all_bounds (schema_of w))) (length w.names) (body_form w o g.args)
    by_case None e = tt
    by_case (Some t) e =
        let faultless : of_transaction (scope_of w) t ≡ [] = none_at (of_transaction (scope_of w)) w.transactions g.transaction t
        (declared_parts w (parts Run w a.rules).text.declared).transactions e in
        let clean : Each (Clean (scope_of w)) (in_commands [] t.body) = body_clean (scope_of w) t
        (none_second (flat_map range_bounds t.params) (transaction_faults (scope_of w) t) faultless) in
        let below = each_at _ w.transactions g.transaction t a.well_formed.named.transactions e in
        let params : List ℕ = map (λ p. p.name.name) t.params in
        let x : Context = context (schema_of w) params g.args in
        let sc : Scope = scope_of w in
        let objects : ℕ = length (all_bounds (schema_of w)) in
        let names : ℕ = length w.names in
        body_in (ObjectWithin objects names) (TempWithin objects names) (Stands sc objects) (Clean sc) (IsBelow names) (λ x q slot. SlotBelow objects (fields x q) slot)
        (gives sc objects names) (object_of sc objects names) x t.body (stands w params g.args) clean below.2 (hold_abort t.body)
        (suc (last_number (hold_abort t.body) x t.body)) (omega arith) (λ m l. tt) (omega arith)
