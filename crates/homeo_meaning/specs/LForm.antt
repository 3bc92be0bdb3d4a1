-- The L form of a call: what it does with whole objects, without relations, parameters and bounds.
use Rattle.std.specs.Prelude.{ℕ, suc, ◌+◌, Bool, true, false, ◌||◌, List, [], ◌∷◌, length, ℤ, pos, Option, Some, None}
use Rattle.homeo_syntax.specs.declared.phrase.Compare.TheVariants as compare
use Rattle.homeo_syntax.specs.declared.low.Temp.TheVariants as temp
use Rattle.homeo_syntax.specs.declared.low.SplitName.TheVariants as split
use Rattle.homeo_syntax.specs.Low as L
use Rattle.homeo_syntax.specs.Source.{Expr, Exprs, Literal, Name, Read, Sum, Product, Neg, Field, Row, Count, Total, NoExpr, MoreExpr, Test, Cond, True, Not, Comparison, NoTest, MoreTest, FieldValue, Command, Commands, Skip, Assign, Write, Print, If, Block, SetField, SetRow, Foreach, Insert, Delete, Update, Abort, NoCommand, MoreCommand}
use Rattle.homeo_meaning.specs.Key.{definitions}
use Rattle.homeo_meaning.specs.Schema.{Declared, Schema}
use Rattle.homeo_meaning.specs.Aborts.{holds_abort, hold_abort}
use Rattle.homeo_meaning.specs.LowWrites.{all_written}
use Rattle.homeo_meaning.specs.Context.{Spot, Slot, Context, spot, cell, field_cell, object, slots, fields, bind, slot_at, context}

-- commands to run before, the lifted phrase, and the next number of a fresh temporary
pub record Lifted (A : Type 0) : Type 0 where
  pub before : L.Commands
  pub phrase : A
  pub next : ℕ

pub record Made : Type 0 where
  pub command : L.Command
  pub next : ℕ

pub record AllMade : Type 0 where
  pub commands : L.Commands
  pub next : ℕ

-- ---- words of L
abbrev pub both : L.Commands → L.Commands → L.Commands
unfolding definitions
both L.NoCommand ds = ds
both (L.MoreCommand c cs) ds = L.MoreCommand c (both cs ds)

abbrev pub one : L.Command → L.Commands
unfolding definitions
one c = L.MoreCommand c L.NoCommand

-- a command after those of a lifting, alone where there are none
abbrev pub in_front : L.Commands → L.Command → L.Command
unfolding definitions
in_front L.NoCommand c = c
in_front (L.MoreCommand b bs) c = L.Seq (L.MoreCommand b (both bs (one c)))

abbrev pub read : ℕ → L.Expr
unfolding definitions
read x = L.Read (split.Whole x)

abbrev pub fresh : ℕ → L.Expr
unfolding definitions
fresh n = L.OfTemp (temp.Fresh n)

abbrev pub equal : L.Expr → ℤ → L.Test
unfolding definitions
equal e v = L.Comparison compare.Equal e (L.Literal v)

abbrev pub one_test : L.Test → L.Cond
unfolding definitions
one_test t = L.MoreTest t L.NoTest

-- where a call can be ended, the fresh temporary 0 is 1 from its end on
abbrev pub flag : L.Expr
unfolding definitions
flag = fresh 0

abbrev pub set_flag : ℤ → L.Command
unfolding definitions
set_flag v = L.Assign (temp.Fresh 0) (L.Literal v)

-- a command that is not done where the call is ended
abbrev pub unless_ended : L.Command → L.Command
unfolding definitions
unless_ended c = L.If (one_test (equal flag (pos 0))) c L.Skip

-- so where it stands behind a command that can end the call
abbrev pub guard : Bool → L.Command → L.Command
unfolding definitions
guard true c = unless_ended c
guard false c = c

-- within the bounds, and then more tests
abbrev pub within : Spot → L.Expr → L.Cond → L.Cond
unfolding definitions
within b e more =
    L.MoreTest (L.Comparison compare.LessEqual (L.Literal b.lo) e) (L.MoreTest (L.Comparison compare.LessEqual e (L.Literal b.hi)) more)

-- ---- liftings
abbrev pub plain : {A : Type 0} → A → ℕ → Lifted A
unfolding definitions
plain a n = record { before = L.NoCommand; phrase = a; next = n }

abbrev pub mapped : {A B : Type 0} → (A → B) → Lifted A → Lifted B
unfolding definitions
mapped f x = record { before = x.before; phrase = f x.phrase; next = x.next }

-- two phrases from left to right
abbrev pub combined : {A B C : Type 0} → (A → B → C) → Lifted A → (ℕ → Lifted B) → Lifted C
unfolding definitions
combined f x y = record { before = both x.before (y x.next).before; phrase = f x.phrase (y x.next).phrase; next = (y x.next).next }

-- the commands of a slot and then more commands: the slot's as they are, or as one that is not done where the call is ended
abbrev pub in_turn : Bool → L.Commands → L.Command → L.Commands → L.Commands
unfolding definitions
in_turn true before c more = L.MoreCommand (unless_ended (in_front before c)) more
in_turn false before c more = both before (L.MoreCommand c more)

-- the slots in rising order: a loop's tests and bodies. Where a body can end the call, the slots after the first are guarded
abbrev pub visits : Bool → Bool → (Slot → ℕ → Lifted L.Cond) → (Slot → ℕ → Made) → List Slot → ℕ → AllMade
unfolding definitions
visits guarded later test body [] n = record { commands = L.NoCommand; next = n }
visits guarded later test body (slot ∷ more) n =
    let b = test slot n in
    let c = body slot b.next in
    let others = visits later later test body more c.next in
    record {
      commands = in_turn guarded b.before (L.If (L.MoreTest (equal (read slot.used) (pos 1)) b.phrase) c.command L.Skip) others.commands;
      next = others.next;
    }

-- a count or a sum in a fresh temporary
abbrev pub counted : (Slot → ℕ → Lifted L.Cond) → (Slot → L.Expr) → List Slot → ℕ → Lifted L.Expr
unfolding definitions
counted test term all n =
    let body : Slot → ℕ → Made = λ slot m. record { command = L.Assign (temp.Fresh n) (L.Sum (L.MoreExpr (fresh n) (L.MoreExpr (term slot) L.NoExpr))); next = m } in
    let loop = visits false false test body all (suc n) in
    record { before = L.MoreCommand (L.Assign (temp.Fresh n) (L.Literal (pos 0))) loop.commands; phrase = fresh n; next = loop.next }

-- the field of the slot that e names, put into a fresh temporary
abbrev pub read_chain : Spot → L.Expr → ℕ → List Slot → L.Command
unfolding definitions
read_chain f e t [] = L.Assign (temp.Fresh t) (L.Literal (pos 0))
read_chain f e t (slot ∷ more) =
    L.If (one_test (equal e (pos slot.number))) (L.Assign (temp.Fresh t) (read (cell slot f))) (read_chain f e t more)

abbrev pub read_slot : Spot → Option Slot → L.Expr
unfolding definitions
read_slot f (Some slot) = read (cell slot f)
read_slot f None = L.Literal (pos 0)

abbrev pub literal_of : L.Expr → Option ℤ
unfolding definitions
literal_of (L.Literal v) = Some v
literal_of (L.OfTemp t) = None
literal_of (L.Read x) = None
literal_of (L.Sum es) = None
literal_of (L.Product es) = None
literal_of (L.Neg e) = None

-- a field by an index that is a literal, or is not
abbrev pub indexed_by : Option ℤ → List Slot → Spot → Lifted L.Expr → Lifted L.Expr
unfolding definitions
indexed_by (Some v) all f x = plain (read_slot f (slot_at v all)) x.next
indexed_by None all f x = record { before = both x.before (one (read_chain f x.phrase x.next all)); phrase = fresh x.next; next = suc x.next }

abbrev pub indexed : List Slot → Spot → Lifted L.Expr → Lifted L.Expr
unfolding definitions
indexed all f x = indexed_by (literal_of x.phrase) all f x

abbrev pub name_of : Option ℤ → ℕ → L.Expr
unfolding definitions
name_of (Some v) x = L.Literal v
name_of None x = L.OfTemp (temp.Named x)

abbrev mutual
  unfolding definitions

  -- an expression without relations and parameters, where n is the next number of a fresh temporary
  pub lift : Context → Expr → ℕ → Lifted L.Expr
  lift x (Literal v) n = plain (L.Literal v) n
  lift x (Name t) n = plain (name_of (x.arguments t.name) t.name) n
  lift x (Read o) n = plain (read (object x o.name).place) n
  lift x (Sum es) n = mapped L.Sum (lift_all x es n)
  lift x (Product es) n = mapped L.Product (lift_all x es n)
  lift x (Neg e) n = mapped L.Neg (lift x e n)
  lift x (Field q e f) n = indexed (slots x q.name) (spot (fields x q.name) f.name) (lift x e n)
  lift x (Row r f) n = plain (read (field_cell (x.rows r.name) f.name)) n
  lift x (Count r q b) n = counted (λ slot. lift_cond (bind x r.name slot) b) (λ slot. L.Literal (pos 1)) (slots x q.name) n
  lift x (Total r f q b) n =
      counted (λ slot. lift_cond (bind x r.name slot) b) (λ slot. read (field_cell slot f.name)) (slots x q.name) n

  pub lift_all : Context → Exprs → ℕ → Lifted L.Exprs
  lift_all x NoExpr n = plain L.NoExpr n
  lift_all x (MoreExpr e es) n = combined L.MoreExpr (lift x e n) (lift_all x es)

  pub lift_test : Context → Test → ℕ → Lifted L.Test
  lift_test x True n = plain L.True n
  lift_test x (Not c) n = mapped L.Not (lift_cond x c n)
  lift_test x (Comparison op a b) n = combined (L.Comparison op) (lift x a n) (lift x b)

  pub lift_cond : Context → Cond → ℕ → Lifted L.Cond
  lift_cond x NoTest n = plain L.NoTest n
  lift_cond x (MoreTest t c) n = combined L.MoreTest (lift_test x t n) (lift_cond x c)

-- ---- commands
-- the commands of a lifting and then the command of its phrase
abbrev pub placed : {A : Type 0} → Lifted A → (A → L.Command) → Made
unfolding definitions
placed x f = record { command = in_front x.before (f x.phrase); next = x.next }

abbrev pub guarded : Spot → ℕ → L.Expr → L.Command
unfolding definitions
guarded b x e = L.If (within b e L.NoTest) (L.Write (split.Whole x) e) L.Skip

abbrev pub write_to : Spot → ℕ → Lifted L.Expr → Made
unfolding definitions
write_to b x e = placed e (guarded b x)

abbrev pub write_field : Slot → ℕ → Lifted L.Expr → Made
unfolding definitions
write_field slot f e = write_to (spot slot.fields f) (field_cell slot f) e

abbrev pub write_chain : Spot → L.Expr → L.Expr → List Slot → L.Command
unfolding definitions
write_chain f i e [] = L.Skip
write_chain f i e (slot ∷ more) = L.If (one_test (equal i (pos slot.number))) (L.Write (split.Whole (cell slot f)) e) (write_chain f i e more)

-- an index and a value
pub record Pair (A : Type 0) : Type 0 where
  pub index : A
  pub value : A

abbrev pub pair : {A : Type 0} → A → A → Pair A
unfolding definitions
pair i v = record { index = i; value = v }

abbrev pub write_at : Option Slot → Spot → ℕ → (ℕ → Lifted L.Expr) → Made
unfolding definitions
write_at None f n y = record { command = L.Skip; next = n }
write_at (Some slot) f n y = write_to f (cell slot f) (y n)

abbrev pub write_by : Option ℤ → List Slot → Spot → Lifted L.Expr → (ℕ → Lifted L.Expr) → Made
unfolding definitions
write_by (Some v) all f x y = write_at (slot_at v all) f x.next y
write_by None all f x y =
    placed (combined pair x y) (λ p. L.If (within f p.value L.NoTest) (write_chain f p.index p.value all) L.Skip)

abbrev pub write_indexed : List Slot → Spot → Lifted L.Expr → (ℕ → Lifted L.Expr) → Made
unfolding definitions
write_indexed all f x y = write_by (literal_of x.phrase) all f x y

abbrev pub as_one : AllMade → Made
unfolding definitions
as_one m = record { command = L.Seq m.commands; next = m.next }

-- the slots of a relation where b holds of the row, with whether a body can end the call
abbrev pub loop : Context → ℕ → ℕ → Cond → Bool → (Slot → ℕ → Made) → ℕ → Made
unfolding definitions
loop x r q b ends body n = as_one (visits false ends (λ slot. lift_cond (bind x r slot) b) body (slots x q) n)

abbrev pub clear : Slot → ℕ → Made
unfolding definitions
clear slot n = record { command = L.Write (split.Whole slot.used) (L.Literal (pos 0)); next = n }

-- a field and the fresh temporary that holds its new value
pub record Target : Type 0 where
  pub field : Spot
  pub temp : ℕ

abbrev pub stored : Spot → Lifted L.Expr → Lifted Target
unfolding definitions
stored f x =
    record { before = both x.before (one (L.Assign (temp.Fresh x.next) x.phrase)); phrase = record { field = f; temp = x.next }; next = suc x.next }

abbrev pub lift_values : Context → List Declared → List FieldValue → ℕ → Lifted (List Target)
unfolding definitions
lift_values x ds [] n = plain [] n
lift_values x ds (f ∷ more) n = combined ◌∷◌ (stored (spot ds f.field.name) (lift x f.value n)) (lift_values x ds more)

abbrev pub all_within : List Target → L.Cond
unfolding definitions
all_within [] = L.NoTest
all_within (x ∷ xs) = within x.field (fresh x.temp) (all_within xs)

-- the writes of the fields, and then more commands
abbrev pub field_writes : Slot → List Target → L.Commands → L.Commands
unfolding definitions
field_writes slot [] cs = cs
field_writes slot (x ∷ xs) cs = L.MoreCommand (L.Write (split.Whole (cell slot x.field)) (fresh x.temp)) (field_writes slot xs cs)

abbrev pub fill_chain : List Target → ℕ → List Slot → L.Command
unfolding definitions
fill_chain xs t [] = L.Assign (temp.Named t) (L.Literal (pos 0))
fill_chain xs t (slot ∷ more) =
    L.If (one_test (equal (read slot.used) (pos 0)))
    (L.Seq (field_writes slot xs (L.MoreCommand (L.Write (split.Whole slot.used) (L.Literal (pos 1))) (one (L.Assign (temp.Named t) (L.Literal (pos (suc slot.number))))))))
    (fill_chain xs t more)

abbrev pub inserted : List Slot → ℕ → Lifted (List Target) → Made
unfolding definitions
inserted all t x =
    record {
      command = L.Seq (both x.before (one (L.If (all_within x.phrase) (fill_chain x.phrase t all) (L.Assign (temp.Named t) (L.Literal (pos 0))))));
      next = x.next;
    }

abbrev pub chosen : Lifted L.Cond → (ℕ → Made) → (ℕ → Made) → Made
unfolding definitions
chosen x c d =
    record { command = in_front x.before (L.If x.phrase (c x.next).command (d (c x.next).next).command); next = (d (c x.next).next).next }

abbrev mutual
  unfolding definitions

  -- the L form of a command, where n is the next number of a fresh temporary
  pub form : Context → Command → ℕ → Made
  form x Skip n = record { command = L.Skip; next = n }
  form x (Assign t e) n = placed (lift x e n) (L.Assign (temp.Named t.name))
  form x (Write o e) n = write_to (object x o.name) (object x o.name).place (lift x e n)
  form x (Print e) n = placed (lift x e n) L.Print
  form x (If b c d) n = chosen (lift_cond x b n) (form x c) (form x d)
  form x (Block cs) n = as_one (forms x false cs n)
  form x (SetField q i f e) n = write_indexed (slots x q.name) (spot (fields x q.name) f.name) (lift x i n) (lift x e)
  form x (SetRow r f e) n = write_field (x.rows r.name) f.name (lift x e n)
  form x (Foreach r q b body) n = loop x r.name q.name b (hold_abort body) (λ slot m. as_one (forms (bind x r.name slot) false body m)) n
  form x (Insert q fs t) n = inserted (slots x q.name) t.name (lift_values x (fields x q.name) fs n)
  form x (Delete r q b) n = loop x r.name q.name b false clear n
  form x (Update r q b f e) n = loop x r.name q.name b false (λ slot m. write_field slot f.name (lift (bind x r.name slot) e m)) n
  form x Abort n = record { command = set_flag (pos 1); next = n }

  -- the L forms of commands one after another, each guarded that stands behind a command that can end the call
  pub forms : Context → Bool → Commands → ℕ → AllMade
  forms x guarded NoCommand n = record { commands = L.NoCommand; next = n }
  forms x guarded (MoreCommand c cs) n =
      let first = form x c n in
      let others = forms x (guarded || holds_abort c) cs first.next in
      record { commands = L.MoreCommand (guard guarded first.command) others.commands; next = others.next }

-- ---- calls that can be ended
-- each object saved in a fresh temporary, the first of them in that of number n, and then more commands
abbrev pub saves : ℕ → List ℕ → L.Commands → L.Commands
unfolding definitions
saves n [] more = more
saves n (x ∷ xs) more = L.MoreCommand (L.Assign (temp.Fresh n) (read x)) (saves (suc n) xs more)

-- each object set to what was saved of it
abbrev pub restores : ℕ → List ℕ → L.Commands
unfolding definitions
restores n [] = L.NoCommand
restores n (x ∷ xs) = L.MoreCommand (L.Write (split.Whole x) (fresh n)) (restores (suc n) xs)

-- where the call is ended, its writes are undone
abbrev pub undo : List ℕ → L.Command
unfolding definitions
undo saved = L.If (one_test (equal flag (pos 1))) (L.Seq (restores 1 saved)) L.Skip

-- the objects that some write in the L form of a body names
abbrev pub saved_in : Context → Commands → List ℕ
unfolding definitions
saved_in x body = all_written (forms x false body 0).commands []

abbrev pub undoing : List ℕ → L.Commands → L.Command
unfolding definitions
undoing saved body = L.Seq (L.MoreCommand (set_flag (pos 0)) (saves 1 saved (L.MoreCommand (L.Seq body) (one (undo saved)))))

-- the L form of a body: where it can end its call, the flag and the saved objects come before it, and the undoing behind it
abbrev pub body_by : Bool → Context → Commands → L.Command
unfolding definitions
body_by false x body = L.Seq (forms x false body 0).commands
body_by true x body = let saved = saved_in x body in undoing saved (forms x false body (1 + length saved)).commands

-- the L form of a call of a transaction with these parameters and this body
abbrev pub l_form : Schema → List ℕ → List ℤ → Commands → L.Command
unfolding definitions
l_form x params args body = body_by (hold_abort body) (context x params args) body
