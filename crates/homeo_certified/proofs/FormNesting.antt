-- How deep L forms nest: as deep as six times the call's own text, and the slots of a relation.
use Rattle.std.proofs.Common.{Bool, true, false, ◌||◌, ℕ, suc, ◌+◌, ◌*◌, ◌≤◌, max, List, [], ◌∷◌, length, ℤ, pos, Option, Some, None, arith}
use Rattle.homeo_syntax.specs.declared.low.Temp.TheVariants as temp
use Rattle.homeo_syntax.specs.declared.low.SplitName.TheVariants as split
use Rattle.homeo_syntax.specs.declared.phrase.Compare.TheVariants as compare
use Rattle.homeo_syntax.specs.Low as L
use Rattle.homeo_syntax.specs.Source.{Expr, Exprs, Literal, Name, Read, Sum, Product, Neg, Field, Row, Count, Total, NoExpr, MoreExpr, Test, Cond, True, Not, Comparison, NoTest, MoreTest, FieldValue, Command, Commands, Skip, Assign, Write, Print, If, Block, SetField, SetRow, Foreach, Insert, Delete, Update, Abort, NoCommand, MoreCommand}
use Rattle.homeo_meaning.specs.Schema.{Declared, Schema}
use Rattle.homeo_meaning.specs.Aborts.{holds_abort, hold_abort}
use Rattle.homeo_meaning.specs.Context.{Spot, Slot, Context, spot, cell, field_cell, object, slots, fields, bind, slot_at, context}
use Rattle.homeo_meaning.specs.LForm.{Lifted, Made, both, one, in_front, combined, visits, counted, read_chain, read_slot, literal_of, indexed_by, name_of, lift, lift_all, lift_test, lift_cond, write_to, write_field, write_chain, write_at, write_by, Target, stored, lift_values, all_within, field_writes, fill_chain, as_one, clear, guard, in_turn, saves, restores, undo, saved_in, undoing, body_by, form, forms, l_form}
use Rattle.homeo_meaning.specs.Key.{definitions}
use Rattle.homeo_certificate.specs.Key.{definitions as cert_definitions}
use Rattle.homeo_certificate.specs.Nesting.{expr_nesting, exprs_nesting, test_nesting, cond_nesting, nesting, all_nesting}

-- ---- how deep the text of a call nests
abbrev mutual
  unfolding definitions

  pub expr_depth : Expr → ℕ
  expr_depth (Literal v) = 1
  expr_depth (Name x) = 1
  expr_depth (Read x) = 1
  expr_depth (Sum es) = suc (exprs_depth es)
  expr_depth (Product es) = suc (exprs_depth es)
  expr_depth (Neg e) = suc (expr_depth e)
  expr_depth (Field r e f) = suc (expr_depth e)
  expr_depth (Row r f) = 1
  expr_depth (Count r q b) = suc (cond_depth b)
  expr_depth (Total r f q b) = suc (cond_depth b)

  pub exprs_depth : Exprs → ℕ
  exprs_depth NoExpr = 0
  exprs_depth (MoreExpr e es) = max (expr_depth e) (exprs_depth es)

  pub test_depth : Test → ℕ
  test_depth True = 1
  test_depth (Not c) = suc (cond_depth c)
  test_depth (Comparison op a b) = suc (max (expr_depth a) (expr_depth b))

  pub cond_depth : Cond → ℕ
  cond_depth NoTest = 0
  cond_depth (MoreTest t c) = max (test_depth t) (cond_depth c)

abbrev pub values_depth : List FieldValue → ℕ
unfolding definitions
values_depth [] = 0
values_depth (f ∷ fs) = max (expr_depth f.value) (values_depth fs)

abbrev mutual
  unfolding definitions

  pub command_depth : Command → ℕ
  command_depth Skip = 1
  command_depth (Assign t e) = suc (expr_depth e)
  command_depth (Write x e) = suc (expr_depth e)
  command_depth (Print e) = suc (expr_depth e)
  command_depth (If b c d) = suc (max (cond_depth b) (max (command_depth c) (command_depth d)))
  command_depth (Block cs) = suc (commands_depth cs)
  command_depth (SetField q i f e) = suc (max (expr_depth i) (expr_depth e))
  command_depth (SetRow r f e) = suc (expr_depth e)
  command_depth (Foreach r q b body) = suc (max (cond_depth b) (commands_depth body))
  command_depth (Insert q fs t) = suc (values_depth fs)
  command_depth (Delete r q b) = suc (cond_depth b)
  command_depth (Update r q b f e) = suc (max (cond_depth b) (expr_depth e))
  command_depth Abort = 1

  pub commands_depth : Commands → ℕ
  commands_depth NoCommand = 0
  commands_depth (MoreCommand c cs) = max (command_depth c) (commands_depth cs)

-- what a lifting runs before, and the lifted phrase
record Nests {A : Type 0} (depth : A → ℕ) (n m : ℕ) (x : Lifted A) : Type 0 where
  pub before : all_nesting x.before ≤ n
  pub phrase : depth x.phrase ≤ m

both_nests : (n : ℕ) (cs ds : L.Commands) → all_nesting cs ≤ n → all_nesting ds ≤ n → all_nesting (both cs ds) ≤ n
unfolding definitions cert_definitions
both_nests n L.NoCommand ds h k = k
both_nests n (L.MoreCommand c cs) ds h k = let r = both_nests n cs ds (omega (arith, h)) k in omega (arith, h, r)

front_nests : (n : ℕ) (cs : L.Commands) (c : L.Command) → all_nesting cs ≤ n → nesting c ≤ n → nesting (in_front cs c) ≤ suc n
unfolding definitions cert_definitions
front_nests n L.NoCommand c h k = omega (arith, k)
front_nests n (L.MoreCommand b bs) c h k =
    let last : all_nesting (one c) ≤ n = omega (arith, k) in
    let r = both_nests n bs (one c) (omega (arith, h)) last in omega (arith, h, r)

combined_nests :
    {A B C : Type 0} (a : A → ℕ) (b : B → ℕ) (c : C → ℕ) (f : A → B → C) (n p q r : ℕ) → ((x : A) (y : B) → a x ≤ p → b y ≤ q → c (f x y) ≤ r) →
    (x : Lifted A) (y : ℕ → Lifted B) → Nests a n p x → ((m : ℕ) → Nests b n q (y m)) → Nests c n r (combined f x y)
unfolding definitions
combined_nests a b c f n p q r h x y k l =
    record {
      before = both_nests n x.before (y x.next).before k.before (l x.next).before;
      phrase = h x.phrase (y x.next).phrase k.phrase (l x.next).phrase;
    }

-- a slot's commands in a loop nest two deeper where they aren't done in a call that is ended
turn_nests :
    (v : Bool) (n : ℕ) (cs : L.Commands) (c : L.Command) (more : L.Commands) → 1 ≤ n → all_nesting cs ≤ n → nesting c ≤ n → all_nesting more ≤ n + 2 →
    all_nesting (in_turn v cs c more) ≤ n + 2
unfolding definitions cert_definitions
turn_nests true n cs c more l h k m = let r = front_nests n cs c h k in omega (arith, l, r, m)
turn_nests false n cs c more l h k m = both_nests (n + 2) cs _ (omega (arith, h)) (omega (arith, k, m))

visits_nest :
    (test : Slot → ℕ → Lifted L.Cond) (body : Slot → ℕ → Made) (n d : ℕ) → 3 ≤ n → suc d ≤ n →
    ((slot : Slot) (m : ℕ) → Nests cond_nesting n d (test slot m)) → ((slot : Slot) (m : ℕ) → suc (nesting (body slot m).command) ≤ n) →
    (all : List Slot) (m : ℕ) → all_nesting (visits false false test body all m).commands ≤ n
unfolding definitions cert_definitions
visits_nest test body n d three room h k [] m = omega arith
visits_nest test body n d three room h k (slot ∷ more) m =
    let b = test slot m in
    let c = body slot b.next in
    let rest = visits_nest test body n d three room h k more c.next in
    let p = (h slot m).phrase in
    let q = k slot b.next in
    both_nests n b.before _ (h slot m).before (omega (arith, three, room, rest, p, q))

-- where a body can end the call
ended_nest :
    (v later : Bool) (test : Slot → ℕ → Lifted L.Cond) (body : Slot → ℕ → Made) (n d : ℕ) → 3 ≤ n → suc d ≤ n →
    ((slot : Slot) (m : ℕ) → Nests cond_nesting n d (test slot m)) → ((slot : Slot) (m : ℕ) → suc (nesting (body slot m).command) ≤ n) →
    (all : List Slot) (m : ℕ) → all_nesting (visits v later test body all m).commands ≤ n + 2
unfolding definitions cert_definitions
ended_nest v later test body n d three room h k [] m = omega arith
ended_nest v later test body n d three room h k (slot ∷ more) m =
    let b = test slot m in
    let c = body slot b.next in
    let rest = ended_nest later later test body n d three room h k more c.next in
    let p = (h slot m).phrase in
    let q = k slot b.next in
    turn_nests v n b.before _ _ (omega (arith, three)) (h slot m).before (omega (arith, three, room, p, q)) rest

counted_nests :
    (test : Slot → ℕ → Lifted L.Cond) (term : Slot → L.Expr) (n d : ℕ) → 4 ≤ n → suc d ≤ n →
    ((slot : Slot) (m : ℕ) → Nests cond_nesting n d (test slot m)) → ((slot : Slot) → expr_nesting (term slot) ≤ 1) →
    (all : List Slot) (m : ℕ) → Nests expr_nesting n 1 (counted test term all m)
unfolding definitions cert_definitions
counted_nests test term n d four room h k all m =
    let add : Slot → ℕ → Made = λ slot j. record { command = L.Assign (temp.Fresh m) (L.Sum (L.MoreExpr (L.OfTemp (temp.Fresh m)) (L.MoreExpr (term slot) L.NoExpr))); next = j } in
    let loop = visits_nest test add n d (omega (arith, four)) room h (λ slot j. let t = k slot in omega (arith, four, t)) all (suc m) in
    record { before = omega (arith, four, loop); phrase = omega arith }

read_chain_nests : (f : Spot) (e : L.Expr) (t d : ℕ) (all : List Slot) → 1 ≤ d → expr_nesting e ≤ d → nesting (read_chain f e t all) ≤ length all + (d + 2)
unfolding definitions cert_definitions
read_chain_nests f e t d [] one h = omega (arith, one)
read_chain_nests f e t d (slot ∷ more) one h = let r = read_chain_nests f e t d more one h in omega (arith, one, h, r)

read_slot_nests : (f : Spot) (o : Option Slot) → expr_nesting (read_slot f o) ≤ 1
unfolding definitions cert_definitions
read_slot_nests f (Some slot) = omega arith
read_slot_nests f None = omega arith

indexed_nests :
    (o : Option ℤ) (all : List Slot) (f : Spot) (x : Lifted L.Expr) (n d : ℕ) → length all ≤ 64 → 1 ≤ d → 64 + (d + 2) ≤ n → Nests expr_nesting n d x →
    Nests expr_nesting n 1 (indexed_by o all f x)
unfolding definitions cert_definitions
indexed_nests (Some v) all f x n d few one room h = record { before = omega arith; phrase = read_slot_nests f (slot_at v all) }
indexed_nests None all f x n d few one room h =
    let r = read_chain_nests f x.phrase x.next d all one h.phrase in
    record { before = both_nests n x.before _ h.before (omega (arith, r, few, room)); phrase = omega arith }

name_nests : (o : Option ℤ) (x : ℕ) → expr_nesting (name_of o x) ≤ 1
unfolding definitions cert_definitions
name_nests (Some v) x = omega arith
name_nests None x = omega arith

wider : {A : Type 0} (f : A → ℕ) (n m p q : ℕ) (x : Lifted A) → n ≤ p → m ≤ q → Nests f n m x → Nests f p q x
wider f n m p q x l o h = record { before = omega (arith, l, h.before); phrase = omega (arith, o, h.phrase) }

-- the room that the chains over slots need, beside the depth of the phrase
room : ℕ → ℕ
room d = d + 70

unfoldable pub AllFew : Context → Type 0
AllFew w = (q : ℕ) → length (slots w q) ≤ 64

bind_few : (w : Context) (r : ℕ) (slot : Slot) → AllFew w → AllFew (bind w r slot)
unfolding definitions AllFew
bind_few w r slot h = h

mutual
  unfolding definitions cert_definitions room AllFew

  lift_nests : (w : Context) (few : AllFew w) (e : Expr) (n m : ℕ) → room (expr_depth e) ≤ n → Nests expr_nesting n (expr_depth e) (lift w e m)
  lift_nests w few (Literal v) n m l = record { before = omega arith; phrase = omega arith }
  lift_nests w few (Name x) n m l = record { before = omega arith; phrase = name_nests (w.arguments x.name) x.name }
  lift_nests w few (Read x) n m l = record { before = omega arith; phrase = omega arith }
  lift_nests w few (Sum es) n m l = let h = exprs_nest w few es n m (omega (arith, l)) in let p = h.phrase in record { before = h.before; phrase = omega (arith, p) }
  lift_nests w few (Product es) n m l = let h = exprs_nest w few es n m (omega (arith, l)) in let p = h.phrase in record { before = h.before; phrase = omega (arith, p) }
  lift_nests w few (Neg e) n m l = let h = lift_nests w few e n m (omega (arith, l)) in let p = h.phrase in record { before = h.before; phrase = omega (arith, p) }
  lift_nests w few (Field r e f) n m l =
      let h = lift_nests w few e n m (omega (arith, l)) in
      let some = depth_some e in
      wider expr_nesting n 1 n (suc (expr_depth e)) _ (omega arith) (omega arith)
      (indexed_nests (literal_of (lift w e m).phrase) (slots w r.name) (spot (fields w r.name) f.name) (lift w e m) n (expr_depth e) (few r.name) some (omega (arith, l)) h)
  lift_nests w few (Row r f) n m l = record { before = omega arith; phrase = omega arith }
  lift_nests w few (Count r q b) n m l =
      wider expr_nesting n 1 n (suc (cond_depth b)) _ (omega arith) (omega arith)
      (counted_nests (λ slot. lift_cond (bind w r.name slot) b) _ n (cond_depth b) (omega (arith, l)) (omega (arith, l))
      (λ slot j. cond_nests (bind w r.name slot) (bind_few w r.name slot few) b n j (omega (arith, l))) (λ slot. omega arith) (slots w q.name) m)
  lift_nests w few (Total r f q b) n m l =
      wider expr_nesting n 1 n (suc (cond_depth b)) _ (omega arith) (omega arith)
      (counted_nests (λ slot. lift_cond (bind w r.name slot) b) _ n (cond_depth b) (omega (arith, l)) (omega (arith, l))
      (λ slot j. cond_nests (bind w r.name slot) (bind_few w r.name slot few) b n j (omega (arith, l))) (λ slot. omega arith) (slots w q.name) m)

  depth_some : (e : Expr) → 1 ≤ expr_depth e
  depth_some (Literal v) = omega arith
  depth_some (Name x) = omega arith
  depth_some (Read x) = omega arith
  depth_some (Sum es) = omega arith
  depth_some (Product es) = omega arith
  depth_some (Neg e) = omega arith
  depth_some (Field r e f) = omega arith
  depth_some (Row r f) = omega arith
  depth_some (Count r q b) = omega arith
  depth_some (Total r f q b) = omega arith

  exprs_nest : (w : Context) (few : AllFew w) (es : Exprs) (n m : ℕ) → room (exprs_depth es) ≤ n → Nests exprs_nesting n (exprs_depth es) (lift_all w es m)
  exprs_nest w few NoExpr n m l = record { before = omega arith; phrase = omega arith }
  exprs_nest w few (MoreExpr e es) n m l =
      combined_nests expr_nesting exprs_nesting exprs_nesting L.MoreExpr n (expr_depth e) (exprs_depth es) (max (expr_depth e) (exprs_depth es))
      (λ a b h k. omega (arith, h, k)) (lift w e m) (lift_all w es) (lift_nests w few e n m (omega (arith, l))) (λ j. exprs_nest w few es n j (omega (arith, l)))

  test_nests : (w : Context) (few : AllFew w) (t : Test) (n m : ℕ) → room (test_depth t) ≤ n → Nests test_nesting n (test_depth t) (lift_test w t m)
  test_nests w few True n m l = record { before = omega arith; phrase = omega arith }
  test_nests w few (Not c) n m l = let h = cond_nests w few c n m (omega (arith, l)) in let p = h.phrase in record { before = h.before; phrase = omega (arith, p) }
  test_nests w few (Comparison op a b) n m l =
      combined_nests expr_nesting expr_nesting test_nesting (L.Comparison op) n (expr_depth a) (expr_depth b) (suc (max (expr_depth a) (expr_depth b)))
      (λ x y h k. omega (arith, h, k)) (lift w a m) (lift w b) (lift_nests w few a n m (omega (arith, l))) (λ j. lift_nests w few b n j (omega (arith, l)))

  cond_nests : (w : Context) (few : AllFew w) (c : Cond) (n m : ℕ) → room (cond_depth c) ≤ n → Nests cond_nesting n (cond_depth c) (lift_cond w c m)
  cond_nests w few NoTest n m l = record { before = omega arith; phrase = omega arith }
  cond_nests w few (MoreTest t c) n m l =
      combined_nests test_nesting cond_nesting cond_nesting L.MoreTest n (test_depth t) (cond_depth c) (max (test_depth t) (cond_depth c))
      (λ a b h k. omega (arith, h, k)) (lift_test w t m) (lift_cond w c) (test_nests w few t n m (omega (arith, l))) (λ j. cond_nests w few c n j (omega (arith, l)))

-- ---- commands
guard_nests : (v : Bool) (c : L.Command) (n : ℕ) → 2 ≤ n → nesting c ≤ n → nesting (guard v c) ≤ suc n
unfolding definitions cert_definitions
guard_nests true c n l h = omega (arith, l, h)
guard_nests false c n l h = omega (arith, h)

guarded_nests : (b : Spot) (x : ℕ) (e : L.Expr) (d n : ℕ) → expr_nesting e ≤ d → 1 ≤ d → d + 2 ≤ n →
    nesting (L.If (L.MoreTest (L.Comparison compare.LessEqual (L.Literal b.lo) e) (L.MoreTest (L.Comparison compare.LessEqual e (L.Literal b.hi)) L.NoTest)) (L.Write (split.Whole x) e) L.Skip) ≤ n
unfolding cert_definitions
guarded_nests b x e d n h one l = omega (arith, h, one, l)

write_nests : (b : Spot) (x : ℕ) (e : Lifted L.Expr) (d n : ℕ) → 1 ≤ d → d + 2 ≤ n → Nests expr_nesting n d e → nesting (write_to b x e).command ≤ suc n
unfolding definitions cert_definitions
write_nests b x e d n one l h = let p = h.phrase in front_nests n e.before _ h.before (guarded_nests b x e.phrase d n p one l)

write_chain_nests : (f : Spot) (i e : L.Expr) (d : ℕ) (all : List Slot) → 1 ≤ d → expr_nesting i ≤ d → expr_nesting e ≤ d → nesting (write_chain f i e all) ≤ length all + (d + 2)
unfolding definitions cert_definitions
write_chain_nests f i e d [] one h k = omega (arith, one)
write_chain_nests f i e d (slot ∷ more) one h k = let r = write_chain_nests f i e d more one h k in omega (arith, one, h, k, r)

write_at_nests : (o : Option Slot) (f : Spot) (j : ℕ) (y : ℕ → Lifted L.Expr) (d n : ℕ) → 1 ≤ d → d + 2 ≤ n → ((m : ℕ) → Nests expr_nesting n d (y m)) → nesting (write_at o f j y).command ≤ suc n
unfolding definitions cert_definitions
write_at_nests None f j y d n one l h = omega arith
write_at_nests (Some slot) f j y d n one l h = write_nests f (cell slot f) (y j) d n one l (h j)

write_by_nests :
    (o : Option ℤ) (all : List Slot) (f : Spot) (x : Lifted L.Expr) (y : ℕ → Lifted L.Expr) (d n : ℕ) → length all ≤ 64 → 1 ≤ d → d + 68 ≤ n →
    Nests expr_nesting n d x → ((m : ℕ) → Nests expr_nesting n d (y m)) → nesting (write_by o all f x y).command ≤ suc n
unfolding definitions cert_definitions
write_by_nests (Some v) all f x y d n few one l h k = write_at_nests (slot_at v all) f x.next y d n one (omega (arith, l)) k
write_by_nests None all f x y d n few one l h k =
    let e = (y x.next).phrase in
    let p = (k x.next).phrase in
    let r = write_chain_nests f x.phrase e d all one h.phrase p in
    front_nests n (both x.before (y x.next).before) _ (both_nests n x.before _ h.before (k x.next).before) (omega (arith, one, p, r, few, l))

within_nests : (xs : List Target) → cond_nesting (all_within xs) ≤ 2
unfolding definitions cert_definitions
within_nests [] = omega arith
within_nests (x ∷ xs) = let r = within_nests xs in omega (arith, r)

field_writes_nest : (slot : Slot) (xs : List Target) (cs : L.Commands) → all_nesting cs ≤ 2 → all_nesting (field_writes slot xs cs) ≤ 2
unfolding definitions cert_definitions
field_writes_nest slot [] cs h = h
field_writes_nest slot (x ∷ xs) cs h = let r = field_writes_nest slot xs cs h in omega (arith, r)

fill_chain_nests : (xs : List Target) (t : ℕ) (all : List Slot) → nesting (fill_chain xs t all) ≤ length all + 4
unfolding definitions cert_definitions
fill_chain_nests xs t [] = omega arith
fill_chain_nests xs t (slot ∷ more) =
    let r = fill_chain_nests xs t more in
    let s = field_writes_nest slot xs (L.MoreCommand (L.Write (split.Whole slot.used) (L.Literal (pos 1))) (one (L.Assign (temp.Named t) (L.Literal (pos (suc slot.number)))))) (omega arith) in
    omega (arith, r, s)

values_nest : (w : Context) (few : AllFew w) (ds : List Declared) (xs : List FieldValue) (n m : ℕ) → room (values_depth xs) ≤ n → all_nesting (lift_values w ds xs m).before ≤ n
unfolding definitions cert_definitions room
values_nest w few ds [] n m l = omega arith
values_nest w few ds (f ∷ more) n m l =
    let x = lift w f.value m in
    let h = lift_nests w few f.value n m (omega (arith, l)) in
    let p = h.phrase in
    both_nests n (stored (spot ds f.field.name) x).before _ (both_nests n x.before _ h.before (omega (arith, p, l)))
    (values_nest w few ds more n (suc x.next) (omega (arith, l)))

mutual
  unfolding definitions cert_definitions room AllFew

  pub form_nests : (w : Context) (few : AllFew w) (c : Command) (m : ℕ) → nesting (form w c m).command ≤ 6 * command_depth c + 80
  form_nests w few Skip m = omega arith
  form_nests w few (Assign t e) m =
      let h = lift_nests w few e (expr_depth e + 70) m (omega arith) in
      let p = h.phrase in
      let r = front_nests (expr_depth e + 70) (lift w e m).before (L.Assign (temp.Named t.name) (lift w e m).phrase) h.before (omega (arith, p)) in
      omega (arith, r)
  form_nests w few (Write x e) m =
      let r =
      write_nests (object w x.name) (object w x.name).place (lift w e m) (expr_depth e) (expr_depth e + 70) (depth_some e) (omega arith)
      (lift_nests w few e (expr_depth e + 70) m (omega arith)) in
      omega (arith, r)
  form_nests w few (Print e) m =
      let h = lift_nests w few e (expr_depth e + 70) m (omega arith) in
      let p = h.phrase in
      let r = front_nests (expr_depth e + 70) (lift w e m).before (L.Print (lift w e m).phrase) h.before (omega (arith, p)) in
      omega (arith, r)
  form_nests w few (If b c d) m =
      let x = lift_cond w b m in
      let n = 6 * max (cond_depth b) (max (command_depth c) (command_depth d)) + 82 in
      let h = cond_nests w few b n m (omega arith) in
      let p = h.phrase in
      let y = form_nests w few c x.next in
      let z = form_nests w few d (form w c x.next).next in
      let r = front_nests n x.before (L.If x.phrase (form w c x.next).command (form w d (form w c x.next).next).command) h.before (omega (arith, p, y, z)) in
      omega (arith, r)
  form_nests w few (Block cs) m = let r = forms_nest w few false cs m in omega (arith, r)
  form_nests w few (SetField q i f e) m =
      let d = max (expr_depth i) (expr_depth e) in
      let n = d + 70 in
      let some = depth_some e in
      let r =
      write_by_nests (literal_of (lift w i m).phrase) (slots w q.name) (spot (fields w q.name) f.name) (lift w i m) (lift w e) d n (few q.name) (omega (arith, some)) (omega arith)
      (wider expr_nesting n (expr_depth i) n d _ (omega arith) (omega arith) (lift_nests w few i n m (omega arith)))
      (λ j. wider expr_nesting n (expr_depth e) n d _ (omega arith) (omega arith) (lift_nests w few e n j (omega arith))) in
      omega (arith, r)
  form_nests w few (SetRow r f e) m =
      let s =
      write_nests (spot (w.rows r.name).fields f.name) (field_cell (w.rows r.name) f.name) (lift w e m) (expr_depth e) (expr_depth e + 70) (depth_some e) (omega arith)
      (lift_nests w few e (expr_depth e + 70) m (omega arith)) in
      omega (arith, s)
  form_nests w few (Foreach r q b body) m =
      let d = max (cond_depth b) (commands_depth body) in
      let n = 6 * d + 83 in
      let s =
      ended_nest false (hold_abort body) (λ slot. lift_cond (bind w r.name slot) b) (λ slot j. as_one (forms (bind w r.name slot) false body j)) n (cond_depth b) (omega arith) (omega arith)
      (λ slot j. cond_nests (bind w r.name slot) (bind_few w r.name slot few) b n j (omega arith))
      (λ slot j. let t = forms_nest (bind w r.name slot) (bind_few w r.name slot few) false body j in omega (arith, t)) (slots w q.name) m in
      omega (arith, s)
  form_nests w few (Insert q xs t) m =
      let x = lift_values w (fields w q.name) xs m in
      let n = values_depth xs + 70 in
      let v = values_nest w few (fields w q.name) xs n m (omega arith) in
      let c = within_nests x.phrase in
      let f = fill_chain_nests x.phrase t.name (slots w q.name) in
      let l = few q.name in
      let end : L.Commands = one (L.If (all_within x.phrase) (fill_chain x.phrase t.name (slots w q.name)) (L.Assign (temp.Named t.name) (L.Literal (pos 0)))) in
      let last : all_nesting end ≤ n = omega (arith, c, f, l) in
      let r = both_nests n x.before end v last in
      omega (arith, r)
  form_nests w few (Delete r q b) m =
      let n = 6 * cond_depth b + 82 in
      let s =
      visits_nest (λ slot. lift_cond (bind w r.name slot) b) clear n (cond_depth b) (omega arith) (omega arith)
      (λ slot j. cond_nests (bind w r.name slot) (bind_few w r.name slot few) b n j (omega arith)) (λ slot j. omega arith) (slots w q.name) m in
      omega (arith, s)
  form_nests w few (Update r q b f e) m =
      let d = max (cond_depth b) (expr_depth e) in
      let n = 6 * d + 82 in
      let s =
      visits_nest (λ slot. lift_cond (bind w r.name slot) b) (λ slot j. write_field slot f.name (lift (bind w r.name slot) e j)) n (cond_depth b) (omega arith) (omega arith)
      (λ slot j. cond_nests (bind w r.name slot) (bind_few w r.name slot few) b n j (omega arith))
      (λ slot j.
      let t =
      write_nests (spot slot.fields f.name) (field_cell slot f.name) (lift (bind w r.name slot) e j) (expr_depth e) (expr_depth e + 70) (depth_some e) (omega arith)
      (lift_nests (bind w r.name slot) (bind_few w r.name slot few) e (expr_depth e + 70) j (omega arith)) in
      omega (arith, t)) (slots w q.name) m in
      omega (arith, s)
  form_nests w few Abort m = omega arith

  forms_nest : (w : Context) (few : AllFew w) (v : Bool) (cs : Commands) (m : ℕ) → all_nesting (forms w v cs m).commands ≤ 6 * commands_depth cs + 81
  forms_nest w few v NoCommand m = omega arith
  forms_nest w few v (MoreCommand c cs) m =
      let x = guard_nests v (form w c m).command (6 * command_depth c + 80) (omega arith) (form_nests w few c m) in
      let y = forms_nest w few (v || holds_abort c) cs (form w c m).next in
      omega (arith, x, y)

saves_nest : (xs : List ℕ) (n : ℕ) (more : L.Commands) → all_nesting (saves n xs more) ≤ max 2 (all_nesting more)
unfolding definitions cert_definitions
saves_nest [] n more = omega arith
saves_nest (x ∷ xs) n more = let r = saves_nest xs (suc n) more in omega (arith, r)

restores_nest : (xs : List ℕ) (n : ℕ) → all_nesting (restores n xs) ≤ 2
unfolding definitions cert_definitions
restores_nest [] n = omega arith
restores_nest (x ∷ xs) n = let r = restores_nest xs (suc n) in omega (arith, r)

undoing_nests : (saved : List ℕ) (body : L.Commands) → nesting (undoing saved body) ≤ all_nesting body + 6
unfolding definitions cert_definitions
undoing_nests saved body =
    let s = saves_nest saved 1 (L.MoreCommand (L.Seq body) (one (undo saved))) in
    let r = restores_nest saved 1 in
    omega (arith, s, r)

body_nests : (v : Bool) (w : Context) (few : AllFew w) (body : Commands) → nesting (body_by v w body) ≤ 6 * commands_depth body + 87
unfolding definitions cert_definitions
body_nests false w few body = let r = forms_nest w few false body 0 in omega (arith, r)
body_nests true w few body =
    let n = 1 + length (saved_in w body) in
    let r = forms_nest w few false body n in
    let u = undoing_nests (saved_in w body) (forms w false body n).commands in
    omega (arith, r, u)

pub l_form_nests : (x : Schema) (params : List ℕ) (args : List ℤ) (body : Commands) → AllFew (context x params args) → nesting (l_form x params args body) ≤ 6 * commands_depth body + 87
unfolding definitions
l_form_nests x params args body few = body_nests (hold_abort body) (context x params args) few body
