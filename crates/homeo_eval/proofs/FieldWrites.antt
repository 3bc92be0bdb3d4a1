-- Writes to fields, by the slot and the place that the code finds.
use Rattle.std.proofs.Common.{◌≡◌, ℕ, zero, suc, ◌+◌, ◌<◌, Bool, true, ℤ, List, [], ◌∷◌, map, length, Option, Some, None, refl, sym, ap, ◌∙◌, subst, arith}
use Rattle.homeo_context.specs.declared.spot.Spot as code_spot
use Rattle.homeo_context.specs.declared.slots.Slot as code_slot
use Rattle.homeo_context.specs.declared.slots.Slots.{Slots}
use Rattle.homeo_meaning.specs.Key.{definitions}
use Rattle.homeo_meaning.specs.Schema.{Schema, declared_range}
use Rattle.homeo_meaning.specs.Bounds.{all_bounds}
use Rattle.homeo_meaning.specs.Context.{Spot, Slot, Context, spot, cell, field_cell, object, slots, fields, slot_at}
use Rattle.homeo_meaning.specs.Meaning.{State, write, write_field, write_slot}
use Rattle.homeo_eval.specs.inner.CanRun.{on_slots, on_slot}
use Rattle.homeo_lform.specs.RowsFit.{Admits}
use Rattle.homeo_context.specs.Slots.{plain_spot, plain_slot, slots_of}
use Rattle.homeo_eval.specs.inner.States.{IsZeroPast}
use Rattle.homeo_lform.proofs.ObjectBounds.{ForSome, each_first, SlotFits, all_at, slots_fit, object_admits}
use Rattle.homeo_eval.proofs.PastObjects.{admits_zero}
use Rattle.homeo_context.proofs.SlotLists.{slot_of, left, left_all, left_none, left_next}
use Rattle.homeo_eval.proofs.SlotSteps.{each_slot}

-- ---- objects
pub object_zero : (x : Context) (name count : ℕ) (o : code_spot.Spot) → plain_spot o ≡ object x name → count ≡ length (all_bounds x.schema) → IsZeroPast count (plain_spot o) o.place
unfolding definitions
object_zero x name count o e places =
    subst (λ b. IsZeroPast count b b.place) (sym e) (admits_zero x.schema count (object x name).place (object x name) places (object_admits x name))

pub object_written : (x : Context) (name : ℕ) (o : code_spot.Spot) (s : State) (v w : ℤ) → plain_spot o ≡ object x name → w ≡ v → write s (plain_spot o) o.place w ≡ write s (object x name) (object x name).place v
unfolding definitions
object_written x name o s v w e h = λ j. write s (e j) (e j).place (h j)

-- ---- a field of a slot whose own fields are known
pub own_zero : (w : Schema) (slot : code_slot.Slot) (f : code_spot.Spot) (name count : ℕ) (r : Slot) → plain_slot slot ≡ r → plain_spot f ≡ spot r.fields name → Admits (all_at w (field_cell r name)) (spot r.fields name) → count ≡ length (all_bounds w) → IsZeroPast count (plain_spot f) (slot.used + 1 + f.place)
unfolding definitions
own_zero w slot f name count r e p h places =
    let at : slot.used + 1 + f.place ≡ field_cell r name = λ j. (e j).used + 1 + (p j).place in
    subst (λ n. IsZeroPast count (plain_spot f) n) (sym at) (subst (λ b. IsZeroPast count b (field_cell r name)) (sym p) (admits_zero w count (field_cell r name) (spot r.fields name) places h))

pub own_written : (slot : code_slot.Slot) (f : code_spot.Spot) (name : ℕ) (r : Slot) (s : State) (v w : ℤ) → plain_slot slot ≡ r → plain_spot f ≡ spot r.fields name → w ≡ v → write s (plain_spot f) (cell (plain_slot slot) (plain_spot f)) w ≡ write_field s r name v
unfolding definitions
own_written slot f name r s v w e p h = λ j. write s (p j) (cell (e j) (p j)) (h j)

-- ---- a field of the slot that an index names
pub none_here : (t : Slots) (all : List Slot) → slots_of t ≡ all → t.count ≡ 0 → all ≡ []
none_here t all e h = sym e ∙ sym (left_all t) ∙ left_none t 0 (omega arith)

pub some_here : (t : Slots) (all : List Slot) (fits : Bool) → slots_of t ≡ all → (t.count ≡ 0 → ⊥) → on_slots all fits ≡ true → fits ≡ true
unfolding definitions
some_here t all fits e h k = nonempty t.count refl
  where
    nonempty : (n : ℕ) → t.count ≡ n → fits ≡ true
    nonempty zero is = absurd (h is)
    nonempty (suc n) is =
        let front : all ≡ slot_of t 0 ∷ left t (0 + 1) = sym e ∙ sym (left_all t) ∙ left_next t 0 (omega arith) in
        sym (ap (λ l. on_slots l fits) front) ∙ k

pub slot_fits_value : (v : ℤ) (all : List Slot) (slot : Slot) (fits : Bool) → slot_at v all ≡ Some slot → on_slot (slot_at v all) fits ≡ true → fits ≡ true
unfolding definitions
slot_fits_value v all slot fits e k = sym (ap (λ o. on_slot o fits) e) ∙ k

pub at_fits : (x : Context) (q : ℕ) (v : ℤ) (slot : Slot) → slot_at v (slots x q) ≡ Some slot → SlotFits (all_at x.schema) (fields x q) slot
unfolding definitions
at_fits x q v slot e = subst (ForSome (SlotFits (all_at x.schema) (fields x q))) e (each_first (SlotFits (all_at x.schema) (fields x q)) _ (slots x q) (slots_fit x q))

pub at_zero : (x : Context) (q : ℕ) (slot : code_slot.Slot) (f : code_spot.Spot) (name count : ℕ) → plain_spot f ≡ spot (fields x q) name → SlotFits (all_at x.schema) (fields x q) (plain_slot slot) → count ≡ length (all_bounds x.schema) → IsZeroPast count (plain_spot f) (slot.used + 1 + f.place)
unfolding definitions
at_zero x q slot f name count p h places =
    subst (λ b. IsZeroPast count b (slot.used + 1 + b.place)) (sym p) (admits_zero x.schema count (cell (plain_slot slot) (spot (fields x q) name)) (spot (fields x q) name) places (h.field name))

pub slot_written : (s : State) (f g : Spot) (slot : Slot) (o : Option Slot) (v w : ℤ) → f ≡ g → o ≡ Some slot → w ≡ v → write s f (cell slot f) w ≡ write_slot s g o v
unfolding definitions
slot_written s f g slot o v w p e h = (λ j. write s (p j) (cell slot (p j)) (h j)) ∙ ap (λ o. write_slot s g o v) (sym e)

pub slot_kept : (s : State) (g : Spot) (o : Option Slot) (v : ℤ) → o ≡ None → s ≡ write_slot s g o v
unfolding definitions
slot_kept s g o v e = sym (ap (λ o. write_slot s g o v) e)

-- the slot that an index names, found among the slots of the code
pub at_index : (v w : ℤ) (t : Slots) (all : List Slot) (o : Option Slot) → o ≡ slot_at v (slots_of t) → v ≡ w → slots_of t ≡ all → slot_at w all ≡ o
at_index v w t all o found index slots = sym (found ∙ (λ j. slot_at (index j) (slots j)))

-- ---- a field of each slot
pub each_zero : (x : Context) (q : ℕ) (t : Slots) (i : ℕ) (slot : code_slot.Slot) (f : code_spot.Spot) (name count : ℕ) → slots_of t ≡ slots x q → i < t.count → plain_slot slot ≡ slot_of t i → plain_spot f ≡ spot (map declared_range t.fields.now) name → count ≡ length (all_bounds x.schema) → IsZeroPast count (plain_spot f) (slot.used + 1 + f.place)
unfolding definitions
each_zero x q t i slot f name count all h e p places =
    own_zero x.schema slot f name count (slot_of t i) e p ((each_slot (SlotFits (all_at x.schema) (fields x q)) t (slots x q) all (slots_fit x q) i h).own name) places
