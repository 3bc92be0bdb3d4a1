-- That the numbers of a program have properties: R each that stands in the text or is read, and P each that is computed.
-- In each branch and at each slot as if it were taken, but not behind the end of the call.
use Rattle.std.specs.Prelude.{Bool, true, false, cond, ◌&&◌, List, [], ◌∷◌, ℤ, pos, ◌+ℤ◌, ◌*ℤ◌, neg_ℤ, Option, Some, None}
use Rattle.homeo_syntax.specs.Source.{Expr, Exprs, Literal, Name, Read, Sum, Product, Neg, Field, Row, Count, Total, NoExpr, MoreExpr, Test, Cond, True, Not, Comparison, NoTest, MoreTest, FieldValue, Command, Commands, Skip, Assign, Write, Print, If, Block, SetField, SetRow, Foreach, Insert, Delete, Update, Abort, NoCommand, MoreCommand}
use Rattle.homeo_meaning.specs.Key.{definitions}
use Rattle.homeo_meaning.specs.Context.{Slot, Context, field_cell, slots, bind, slot_at}
use Rattle.homeo_meaning.specs.Meaning.{State, Run, done, is_used, value, holds, set_object, write_field, does, does_all}

-- an index counts where the relation has slots
abbrev pub OnSlots : List Slot → Type 0 → Type 0
unfolding definitions
OnSlots [] T = Unit {0}
OnSlots (slot ∷ more) T = T

-- a value counts where there is the slot that it is written to
abbrev pub OnSlot : Option Slot → Type 0 → Type 0
unfolding definitions
OnSlot None T = Unit {0}
OnSlot (Some slot) T = T

abbrev pub has_some : {A : Type 0} → Option A → Bool
has_some None = false
has_some (Some a) = true

abbrev pub has_none : {A : Type 0} → Option A → Bool
has_none None = true
has_none (Some a) = false

-- a number, an argument, or the 0 of a field that isn't there: an index that nothing is computed for
abbrev pub is_given : Context → Expr → State → Bool
unfolding definitions
is_given x (Literal n) s = true
is_given x (Name t) s = has_some (x.arguments t.name)
is_given x (Read o) s = false
is_given x (Sum es) s = false
is_given x (Product es) s = false
is_given x (Neg e) s = false
is_given x (Field q e f) s = is_given x e s && has_none (slot_at (value x e s) (slots x q.name))
is_given x (Row r f) s = false
is_given x (Count r q b) s = false
is_given x (Total r f q b) s = false

abbrev pub Unless : Bool → Type 0 → Type 0
Unless true T = Unit {0}
Unless false T = T

module _ (R P : ℤ → Type 0) where
  -- of a count or a sum each test, and each number on the way
  abbrev pub CanAdd : (Slot → Type 0) → (Slot → Bool) → (Slot → ℤ) → List Slot → ℤ → Type 0
  unfolding definitions
  CanAdd Tests passes term [] n = Unit {0}
  CanAdd Tests passes term (slot ∷ more) n =
      Tests slot × R (term slot) × P (n +ℤ term slot) × CanAdd Tests passes term more (cond (passes slot) (n +ℤ term slot) n)

  abbrev mutual
    unfolding definitions

    pub CanValue : Context → Expr → State → Type 0
    CanValue x (Literal n) s = R n
    CanValue x (Name t) s = R (value x (Name t) s)
    CanValue x (Read o) s = R (value x (Read o) s)
    CanValue x (Sum es) s = CanSum x es s (pos 0)
    CanValue x (Product es) s = CanProduct x es s (pos 1)
    CanValue x (Neg e) s = CanValue x e s × P (neg_ℤ (value x e s))
    CanValue x (Field q e f) s = OnSlots (slots x q.name) (Unless (is_given x e s) (CanValue x e s)) × R (value x (Field q e f) s)
    CanValue x (Row r f) s = R (value x (Row r f) s)
    CanValue x (Count r q b) s =
        CanAdd (λ slot. CanHold (bind x r.name slot) b s) (λ slot. is_used s slot && holds (bind x r.name slot) b s) (λ slot. pos 1) (slots x q.name) (pos 0)
    CanValue x (Total r f q b) s =
        CanAdd (λ slot. CanHold (bind x r.name slot) b s) (λ slot. is_used s slot && holds (bind x r.name slot) b s) (λ slot. s.database (field_cell slot f.name)) (slots x q.name) (pos 0)

    pub CanSum : Context → Exprs → State → ℤ → Type 0
    CanSum x NoExpr s n = Unit {0}
    CanSum x (MoreExpr e es) s n = CanValue x e s × P (n +ℤ value x e s) × CanSum x es s (n +ℤ value x e s)

    pub CanProduct : Context → Exprs → State → ℤ → Type 0
    CanProduct x NoExpr s n = Unit {0}
    CanProduct x (MoreExpr e es) s n = CanValue x e s × P (n *ℤ value x e s) × CanProduct x es s (n *ℤ value x e s)

    pub CanPass : Context → Test → State → Type 0
    CanPass x True s = Unit {0}
    CanPass x (Not c) s = CanHold x c s
    CanPass x (Comparison op a b) s = CanValue x a s × CanValue x b s

    pub CanHold : Context → Cond → State → Type 0
    CanHold x NoTest s = Unit {0}
    CanHold x (MoreTest t c) s = CanPass x t s × CanHold x c s

  abbrev pub CanValues : Context → List FieldValue → State → Type 0
  unfolding definitions
  CanValues x [] s = Unit {0}
  CanValues x (f ∷ more) s = CanValue x f.value s × CanValues x more s

  -- each visit's test and body, on the state that it finds
  abbrev pub CanVisit : (Slot → State → Type 0) → (Slot → State → Type 0) → (Slot → State → Bool) → (Slot → State → Run) → List Slot → State → Type 0
  unfolding definitions
  CanVisit Tests Bodies test body [] s = Unit {0}
  CanVisit Tests Bodies test body (slot ∷ more) s =
      let here : Run = cond (is_used s slot && test slot s) (body slot s) (done s) in
      Tests slot s × Bodies slot s × Unless here.ended (CanVisit Tests Bodies test body more here.state)

  abbrev mutual
    unfolding definitions

    pub CanRun : Context → Command → State → Type 0
    CanRun x Skip s = Unit {0}
    CanRun x (Assign t e) s = CanValue x e s
    CanRun x (Write o e) s = CanValue x e s
    CanRun x (Print e) s = CanValue x e s
    CanRun x (If b c d) s = CanHold x b s × CanRun x c s × CanRun x d s
    CanRun x (Block cs) s = CanRunAll x cs s
    CanRun x (SetField q i f e) s = OnSlots (slots x q.name) (Unless (is_given x i s) (CanValue x i s)) × OnSlot (slot_at (value x i s) (slots x q.name)) (CanValue x e s)
    CanRun x (SetRow r f e) s = CanValue x e s
    CanRun x (Foreach r q b body) s =
        CanVisit (λ slot. CanHold (bind x r.name slot) b) (λ slot. CanRunAll (bind x r.name slot) body) (λ slot. holds (bind x r.name slot) b) (λ slot. does_all (bind x r.name slot) body) (slots x q.name) s
    CanRun x (Insert q fs t) s = CanValues x fs s
    CanRun x (Delete r q b) s =
        CanVisit (λ slot. CanHold (bind x r.name slot) b) (λ slot s. Unit {0}) (λ slot. holds (bind x r.name slot) b) (λ slot s. done (set_object s slot.used (pos 0))) (slots x q.name) s
    CanRun x (Update r q b f e) s =
        CanVisit (λ slot. CanHold (bind x r.name slot) b) (λ slot. CanValue (bind x r.name slot) e) (λ slot. holds (bind x r.name slot) b) (λ slot s. done (write_field s slot f.name (value (bind x r.name slot) e s))) (slots x q.name) s
    CanRun x Abort s = Unit {0}

    pub CanRunAll : Context → Commands → State → Type 0
    CanRunAll x NoCommand s = Unit {0}
    CanRunAll x (MoreCommand c cs) s = CanRun x c s × Unless (does x c s).ended (CanRunAll x cs (does x c s).state)
