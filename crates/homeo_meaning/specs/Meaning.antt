-- What the source language means.
use Rattle.std.specs.Prelude.{ℕ, suc, ◌==◌, Bool, true, false, cond, not, ◌&&◌, List, [], ◌∷◌, ◌++◌, ℤ, pos, ◌+ℤ◌, ◌*ℤ◌, neg_ℤ, int_lt, int_le, Option, Some, None}
use Rattle.std.specs.Ordering.{int_eq}
use Rattle.homeo_syntax.specs.declared.phrase.Compare.{Compare}
use Rattle.homeo_syntax.specs.declared.phrase.Compare.TheVariants.{Less, LessEqual, Equal}
use Rattle.homeo_syntax.specs.Source.{Expr, Exprs, Literal, Name, Read, Sum, Product, Neg, Field, Row, Count, Total, NoExpr, MoreExpr, Test, Cond, True, Not, Comparison, NoTest, MoreTest, FieldValue, Command, Commands, Skip, Assign, Write, Print, If, Block, SetField, SetRow, Foreach, Insert, Delete, Update, Abort, NoCommand, MoreCommand}
use Rattle.homeo_meaning.specs.Key.{definitions}
use Rattle.homeo_meaning.specs.Schema.{Declared, Schema}
use Rattle.homeo_meaning.specs.Context.{Spot, Slot, Context, spot, cell, field_cell, object, slots, fields, bind, first_where, slot_at, context}

-- the values of the objects, by number, and of the temporaries, by name
pub record State : Type 0 where
  pub database : ℕ → ℤ
  pub temps : ℕ → ℤ

-- what a run leaves and prints, and whether the call is ended
pub record Run : Type 0 where
  pub state : State
  pub prints : List ℤ
  pub ended : Bool

-- the function with one value changed
abbrev pub changed : (ℕ → ℤ) → ℕ → ℤ → ℕ → ℤ
unfolding definitions
changed f n v m = cond (n == m) v (f m)

abbrev pub is_used : State → Slot → Bool
unfolding definitions
is_used s slot = int_eq (s.database slot.used) (pos 1)

abbrev pub is_free : State → Slot → Bool
unfolding definitions
is_free s slot = int_eq (s.database slot.used) (pos 0)

-- a parameter's argument, or else the temporary
abbrev pub argument_or : Option ℤ → ℤ → ℤ
unfolding definitions
argument_or (Some v) t = v
argument_or None t = t

-- the field of a slot, or 0 where there is no such slot
abbrev pub field_or_zero : State → Spot → Option Slot → ℤ
unfolding definitions
field_or_zero s f (Some slot) = s.database (cell slot f)
field_or_zero s f None = pos 0

-- n and the terms of the slots that pass
abbrev pub added : (Slot → Bool) → (Slot → ℤ) → List Slot → ℤ → ℤ
unfolding definitions
added passes term [] n = n
added passes term (slot ∷ more) n = added passes term more (cond (passes slot) (n +ℤ term slot) n)

abbrev pub compared : Compare → ℤ → ℤ → Bool
unfolding definitions
compared Less a b = int_lt a b
compared LessEqual a b = int_le a b
compared Equal a b = int_eq a b

abbrev mutual
  unfolding definitions

  pub value : Context → Expr → State → ℤ
  value x (Literal n) s = n
  value x (Name t) s = argument_or (x.arguments t.name) (s.temps t.name)
  value x (Read o) s = s.database (object x o.name).place
  value x (Sum es) s = sum_value x es s (pos 0)
  value x (Product es) s = product_value x es s (pos 1)
  value x (Neg e) s = neg_ℤ (value x e s)
  value x (Field q e f) s = field_or_zero s (spot (fields x q.name) f.name) (slot_at (value x e s) (slots x q.name))
  value x (Row r f) s = s.database (field_cell (x.rows r.name) f.name)
  value x (Count r q b) s = added (λ slot. is_used s slot && holds (bind x r.name slot) b s) (λ slot. pos 1) (slots x q.name) (pos 0)
  value x (Total r f q b) s =
      added (λ slot. is_used s slot && holds (bind x r.name slot) b s) (λ slot. s.database (field_cell slot f.name)) (slots x q.name) (pos 0)

  -- the sum of n and the terms, from left to right
  pub sum_value : Context → Exprs → State → ℤ → ℤ
  sum_value x NoExpr s n = n
  sum_value x (MoreExpr e es) s n = sum_value x es s (n +ℤ value x e s)

  -- the product of n and the factors, from left to right
  pub product_value : Context → Exprs → State → ℤ → ℤ
  product_value x NoExpr s n = n
  product_value x (MoreExpr e es) s n = product_value x es s (n *ℤ value x e s)

  pub passes : Context → Test → State → Bool
  passes x True s = true
  passes x (Not c) s = not (holds x c s)
  passes x (Comparison op a b) s = compared op (value x a s) (value x b s)

  -- a condition holds where each of its tests passes
  pub holds : Context → Cond → State → Bool
  holds x NoTest s = true
  holds x (MoreTest t c) s = passes x t s && holds x c s

-- ---- commands
abbrev pub done : State → Run
unfolding definitions
done s = record { state = s; prints = []; ended = false }

-- more prints in front of a run's
abbrev pub after_prints : List ℤ → Run → Run
unfolding definitions
after_prints ps r = record { state = r.state; prints = ps ++ r.prints; ended = r.ended }

-- a run, and then what comes next, unless the call is ended
abbrev pub then_do : Run → (State → Run) → Run
unfolding definitions
then_do r next = cond r.ended r (after_prints r.prints (next r.state))

abbrev pub set_temp : State → ℕ → ℤ → State
unfolding definitions
set_temp s t v = record { database = s.database; temps = changed s.temps t v }

abbrev pub set_object : State → ℕ → ℤ → State
unfolding definitions
set_object s n v = record { database = changed s.database n v; temps = s.temps }

abbrev pub is_within : Spot → ℤ → Bool
unfolding definitions
is_within b v = int_le b.lo v && int_le v b.hi

-- a write sets its object where the value is within the bounds, and otherwise changes nothing
abbrev pub write : State → Spot → ℕ → ℤ → State
unfolding definitions
write s b n v = cond (is_within b v) (set_object s n v) s

abbrev pub write_field : State → Slot → ℕ → ℤ → State
unfolding definitions
write_field s slot f v = write s (spot slot.fields f) (field_cell slot f) v

abbrev pub write_slot : State → Spot → Option Slot → ℤ → State
unfolding definitions
write_slot s f None v = s
write_slot s f (Some slot) v = write s f (cell slot f) v

-- the slots in rising order until the call is ended, each tested on the present state
abbrev pub visit : (Slot → State → Bool) → (Slot → State → Run) → List Slot → State → Run
unfolding definitions
visit test body [] s = done s
visit test body (slot ∷ more) s = then_do (cond (is_used s slot && test slot s) (body slot s) (done s)) (visit test body more)

-- the slots of a relation where b holds of the row
abbrev pub visit_all : Context → ℕ → ℕ → Cond → (Slot → State → Run) → State → Run
unfolding definitions
visit_all x r q b body s = visit (λ slot. holds (bind x r slot) b) body (slots x q) s

-- a field and its new value
pub record Setting : Type 0 where
  pub field : Spot
  pub value : ℤ

abbrev pub settings : Context → List Declared → List FieldValue → State → List Setting
unfolding definitions
settings x ds [] s = []
settings x ds (f ∷ more) s = record { field = spot ds f.field.name; value = value x f.value s } ∷ settings x ds more s

abbrev pub are_within : List Setting → Bool
unfolding definitions
are_within [] = true
are_within (f ∷ fs) = is_within f.field f.value && are_within fs

abbrev pub set_fields : Slot → List Setting → State → State
unfolding definitions
set_fields slot [] s = s
set_fields slot (f ∷ fs) s = set_fields slot fs (set_object s (cell slot f.field) f.value)

-- the slot filled and its number plus 1 in the temporary, or 0 where there is no slot
abbrev pub fill : List Setting → ℕ → State → Option Slot → State
unfolding definitions
fill fs t s None = set_temp s t (pos 0)
fill fs t s (Some slot) = set_temp (set_object (set_fields slot fs s) slot.used (pos 1)) t (pos (suc slot.number))

-- the first free slot is filled where all values are within bounds
abbrev pub insert : List Slot → List Setting → ℕ → State → State
unfolding definitions
insert all fs t s = cond (are_within fs) (fill fs t s (first_where (is_free s) all)) (set_temp s t (pos 0))

abbrev mutual
  unfolding definitions

  -- what a command leaves and prints, and whether it ends the call
  pub does : Context → Command → State → Run
  does x Skip s = done s
  does x (Assign t e) s = done (set_temp s t.name (value x e s))
  does x (Write o e) s = done (write s (object x o.name) (object x o.name).place (value x e s))
  does x (Print e) s = record { state = s; prints = value x e s ∷ []; ended = false }
  does x (If b c d) s = cond (holds x b s) (does x c s) (does x d s)
  does x (Block cs) s = does_all x cs s
  does x (SetField q i f e) s = done (write_slot s (spot (fields x q.name) f.name) (slot_at (value x i s) (slots x q.name)) (value x e s))
  does x (SetRow r f e) s = done (write_field s (x.rows r.name) f.name (value x e s))
  does x (Foreach r q b body) s = visit_all x r.name q.name b (λ slot. does_all (bind x r.name slot) body) s
  does x (Insert q fs t) s = done (insert (slots x q.name) (settings x (fields x q.name) fs s) t.name s)
  does x (Delete r q b) s = visit_all x r.name q.name b (λ slot s. done (set_object s slot.used (pos 0))) s
  does x (Update r q b f e) s =
      visit_all x r.name q.name b (λ slot s. done (write_field s slot f.name (value (bind x r.name slot) e s))) s
  does x Abort s = record { state = s; prints = []; ended = true }

  -- commands one after another, until the call is ended
  pub does_all : Context → Commands → State → Run
  does_all x NoCommand s = done s
  does_all x (MoreCommand c cs) s = then_do (does x c s) (does_all x cs)

-- at the end of a call that is ended, the objects are as they were before it
abbrev pub settled : (ℕ → ℤ) → Run → Run
unfolding definitions
settled before r =
    record {
      state = record { database = cond r.ended before r.state.database; temps = r.state.temps };
      prints = r.prints;
      ended = r.ended;
    }

-- a transaction's body, from temporaries 0
abbrev pub run : Schema → List ℕ → List ℤ → Commands → (ℕ → ℤ) → Run
unfolding definitions
run x params args body database =
    settled database (does_all (context x params args) body (record { database = database; temps = λ t. pos 0 }))
