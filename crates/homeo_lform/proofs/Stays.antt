-- A source transaction keeps every object within its bounds.
use Rattle.std.proofs.Common.{◌≡◌, ℕ, suc, ◌==◌, Bool, true, false, cond, ◌&&◌, List, [], ◌∷◌, ℤ, pos, Option, Some, None, refl, subst, arith, zero, ◌≤◌, length}
use Rattle.std.proofs.lemmas.Int.{ints}
use Rattle.std.proofs.lemmas.Bool.Decides.{nat_tests}
use Rattle.homeo_syntax.specs.Source.{FieldValue, Command, Commands, Skip, Assign, Write, Print, If, Block, SetField, SetRow, Foreach, Insert, Delete, Update, Abort, NoCommand, MoreCommand}
use Rattle.homeo_meaning.specs.Key.{definitions}
use Rattle.homeo_meaning.specs.Schema.{Declared, Schema}
use Rattle.homeo_meaning.specs.Context.{Spot, Slot, Context, spot, cell, field_cell, object, slots, fields, bind, first_where, slot_at, context}
use Rattle.homeo_meaning.specs.Bounds.{Bounds, IsIn, bounds_at, AllWithin}
use Rattle.homeo_meaning.specs.Meaning.{State, Run, done, after_prints, then_do, is_used, is_free, is_within, set_temp, set_object, write, write_field, write_slot, visit, Setting, settings, are_within, set_fields, fill, insert, value, holds, does, does_all, run}
use Rattle.homeo_lform.specs.RowsFit.{Admits, RowsFit}
use Rattle.homeo_lform.proofs.ObjectBounds.{Each, ForSome, each_first, SlotFits, all_at, slots_fit, object_admits, no_row_fits}

changed_stays : (w : Schema) (s : State) (x : ℕ) (v : ℤ) → AllWithin w s.database → IsIn (all_at w x) v → AllWithin w (set_object s x v).database
unfolding definitions
changed_stays w s x v h i y = go (x == y) refl
  where
    go : (b : Bool) → (x == y) ≡ b → IsIn (all_at w y) (cond b v (s.database y))
    go true e = let same : x ≡ y = grind (arith, nat_tests) in subst (λ z. IsIn (all_at w z) v) same i
    go false e = h y

write_stays : (w : Schema) (s : State) (f : Spot) (x : ℕ) (v : ℤ) → AllWithin w s.database → Admits (all_at w x) f → AllWithin w (write s f x v).database
unfolding definitions
write_stays w s f x v h a = go (is_within f v) refl
  where
    go : (b : Bool) → is_within f v ≡ b → AllWithin w (cond b (set_object s x v) s).database
    go true e = changed_stays w s x v h (a v e)
    go false e = h

slot_stays : (w : Schema) (ds : List Declared) (s : State) (f : ℕ) (o : Option Slot) (v : ℤ) → AllWithin w s.database → ForSome (SlotFits (all_at w) ds) o → AllWithin w (write_slot s (spot ds f) o v).database
unfolding definitions
slot_stays w ds s f None v h k = h
slot_stays w ds s f (Some slot) v h k = write_stays w s (spot ds f) (cell slot (spot ds f)) v h (k.field f)

-- ---- an insert
pub values_admitted : (w : Schema) (ds : List Declared) (slot : Slot) → SlotFits (all_at w) ds slot → (c : Context) (xs : List FieldValue) (s : State) → Each (λ x. Admits (all_at w (cell slot x.field)) x.field) (settings c ds xs s)
unfolding definitions
values_admitted w ds slot k c [] s = tt
values_admitted w ds slot k c (f ∷ more) s = (k.field f.field.name, values_admitted w ds slot k c more s)

both_true : (a b : Bool) → a && b ≡ true → (a ≡ true) × (b ≡ true)
unfolding definitions
both_true true b e = (refl, e)
both_true false b e = grind arith

fields_stay : (w : Schema) (slot : Slot) (xs : List Setting) (s : State) → AllWithin w s.database → Each (λ x. Admits (all_at w (cell slot x.field)) x.field) xs → are_within xs ≡ true → AllWithin w (set_fields slot xs s).database
unfolding definitions
fields_stay w slot [] s h a e = h
fields_stay w slot (x ∷ xs) s h a e =
    let k = both_true (is_within x.field x.value) (are_within xs) e in
    fields_stay w slot xs (set_object s (cell slot x.field) x.value) (changed_stays w s (cell slot x.field) x.value h (a.0 x.value k.0)) a.1 k.1

insert_stays : (w : Context) (q : ℕ) (xs : List FieldValue) (t : ℕ) (s : State) → AllWithin w.schema s.database → AllWithin w.schema (insert (slots w q) (settings w (fields w q) xs s) t s).database
unfolding definitions
insert_stays w q xs t s h = go (are_within all) refl
  where
    all : List Setting
    all = settings w (fields w q) xs s

    filled : (o : Option Slot) → ForSome (SlotFits (all_at w.schema) (fields w q)) o → are_within all ≡ true → AllWithin w.schema (fill all t s o).database
    filled None k e = h
    filled (Some slot) k e =
        let after = set_fields slot all s in
        changed_stays w.schema after slot.used (pos 1) (fields_stay w.schema slot all s h (values_admitted w.schema (fields w q) slot k w xs s) e) (k.used (pos 1) (omega (arith, ints)) (omega (arith, ints)))

    go : (b : Bool) → are_within all ≡ b → AllWithin w.schema (cond b (fill all t s (first_where (is_free s) (slots w q))) (set_temp s t (pos 0))).database
    go true e = filled (first_where (is_free s) (slots w q)) (each_first (SlotFits (all_at w.schema) (fields w q)) (is_free s) (slots w q) (slots_fit w q)) e
    go false e = h

-- ---- a loop
-- what comes next keeps them where a run did
then_stays : (w : Schema) (r : Run) (next : State → Run) → AllWithin w r.state.database → ((s : State) → AllWithin w s.database → AllWithin w (next s).state.database) → AllWithin w (then_do r next).state.database
unfolding definitions
then_stays w r next h k = go r.ended
  where
    go : (v : Bool) → AllWithin w (cond v r (after_prints r.prints (next r.state))).state.database
    go true = h
    go false = k r.state h

visit_stays : (w : Schema) (P : Slot → Type 0) (test : Slot → State → Bool) (body : Slot → State → Run) → ((slot : Slot) (s : State) → P slot → AllWithin w s.database → AllWithin w (body slot s).state.database) → (all : List Slot) (s : State) → Each P all → AllWithin w s.database → AllWithin w (visit test body all s).state.database
unfolding definitions
visit_stays w P test body k [] s e h = h
visit_stays w P test body k (slot ∷ more) s e h =
    then_stays w (cond (is_used s slot && test slot s) (body slot s) (done s)) (visit test body more) (go (is_used s slot && test slot s)) (λ u i. visit_stays w P test body k more u e.1 i)
  where
    go : (b : Bool) → AllWithin w (cond b (body slot s) (done s)).state.database
    go true = k slot s e.0 h
    go false = h

-- ---- commands
pub bound_fits : (w : Context) (r : ℕ) (slot : Slot) (ds : List Declared) → RowsFit w → SlotFits (all_at w.schema) ds slot → RowsFit (bind w r slot)
unfolding definitions
bound_fits w r slot ds h k y x = go (r == y)
  where
    go : (b : Bool) → Admits (all_at w.schema (field_cell (cond b slot (w.rows y)) x)) (spot (cond b slot (w.rows y)).fields x)
    go true = k.own x
    go false = h y x

mutual
  unfolding definitions

  pub stays : (w : Context) (c : Command) (s : State) → RowsFit w → AllWithin w.schema s.database → AllWithin w.schema (does w c s).state.database
  stays w Skip s k h = h
  stays w (Assign t e) s k h = h
  stays w (Write x e) s k h = write_stays w.schema s (object w x.name) (object w x.name).place (value w e s) h (object_admits w x.name)
  stays w (Print e) s k h = h
  stays w (If b c d) s k h = go (holds w b s) (stays w c s k h) (stays w d s k h)
    where
      go : (v : Bool) → AllWithin w.schema (does w c s).state.database → AllWithin w.schema (does w d s).state.database → AllWithin w.schema (cond v (does w c s) (does w d s)).state.database
      go true p q = p
      go false p q = q
  stays w (Block cs) s k h = all_stay w cs s k h
  stays w (SetField q i f e) s k h =
      slot_stays w.schema (fields w q.name) s f.name (slot_at (value w i s) (slots w q.name)) (value w e s) h (each_first (SlotFits (all_at w.schema) (fields w q.name)) _ (slots w q.name) (slots_fit w q.name))
  stays w (SetRow r f e) s k h = write_stays w.schema s (spot (w.rows r.name).fields f.name) (field_cell (w.rows r.name) f.name) (value w e s) h (k r.name f.name)
  stays w (Foreach r q b body) s k h =
      visit_stays w.schema (SlotFits (all_at w.schema) (fields w q.name)) _ (λ slot. does_all (bind w r.name slot) body)
      (λ slot a p i. all_stay (bind w r.name slot) body a (bound_fits w r.name slot (fields w q.name) k p) i) (slots w q.name) s (slots_fit w q.name) h
  stays w (Insert q xs t) s k h = insert_stays w q.name xs t.name s h
  stays w (Delete r q b) s k h =
      visit_stays w.schema (SlotFits (all_at w.schema) (fields w q.name)) _ (λ slot a. done (set_object a slot.used (pos 0)))
      (λ slot a p i. changed_stays w.schema a slot.used (pos 0) i (p.used (pos 0) (omega (arith, ints)) (omega (arith, ints)))) (slots w q.name) s (slots_fit w q.name) h
  stays w (Update r q b f e) s k h =
      visit_stays w.schema (SlotFits (all_at w.schema) (fields w q.name)) _ (λ slot a. done (write_field a slot f.name (value (bind w r.name slot) e a)))
      (λ slot a p i. write_stays w.schema a (spot slot.fields f.name) (field_cell slot f.name) (value (bind w r.name slot) e a) i (p.own f.name)) (slots w q.name) s (slots_fit w q.name) h
  stays w Abort s k h = h

  all_stay : (w : Context) (cs : Commands) (s : State) → RowsFit w → AllWithin w.schema s.database → AllWithin w.schema (does_all w cs s).state.database
  all_stay w NoCommand s k h = h
  all_stay w (MoreCommand c cs) s k h = then_stays w.schema (does w c s) (does_all w cs) (stays w c s k h) (λ u i. all_stay w cs u k i)

pub bounds_law : (x : Schema) (params : List ℕ) (args : List ℤ) (body : Commands) (database : ℕ → ℤ) → AllWithin x database → AllWithin x (run x params args body database).state.database
unfolding definitions
bounds_law x params args body database h =
    go after.ended (all_stay (context x params args) body (record { database = database; temps = λ t. pos 0 }) (λ r f. no_row_fits x f) h)
  where
    after : Run
    after = does_all (context x params args) body (record { database = database; temps = λ t. pos 0 })

    go : (v : Bool) → AllWithin x after.state.database → AllWithin x (cond v database after.state.database)
    go true k = h
    go false k = k

pub past_end : (bs : List Bounds) (x : ℕ) → length bs ≤ x → bounds_at bs x ≡ record { lo = pos 0; hi = pos 0 }
unfolding definitions
past_end [] x h = refl
past_end (b ∷ bs) zero h = absurd (omega (arith, h))
past_end (b ∷ bs) (suc x) h = past_end bs x (omega (arith, h))
