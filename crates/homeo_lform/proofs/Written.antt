-- The objects that an L form writes are found along the source, whatever its fresh temporaries; and a command keeps each
-- object that it doesn't write.
use Rattle.std.proofs.Common.{◌≡◌, ℕ, suc, ◌==◌, Bool, true, false, cond, ◌||◌, List, [], ◌∷◌, ℤ, Option, Some, None, refl, ap, ◌∙◌, arith}
use Rattle.std.specs.Prelude.{nat_lt}
use Rattle.std.proofs.lemmas.Bool.{or_parts}
use Rattle.std.proofs.lemmas.Bool.Decides.{nat_tests}
use Rattle.homeo_syntax.specs.declared.low.SplitName.{SplitName}
use Rattle.homeo_syntax.specs.declared.low.SplitName.TheVariants as split
use Rattle.homeo_syntax.specs.declared.low.Temp.TheVariants as temp
use Rattle.homeo_syntax.specs.Low as L
use Rattle.homeo_syntax.specs.Source.{Expr, Exprs, Literal, Name, Read, Sum, Product, Neg, Field, Row, Count, Total, NoExpr, MoreExpr, Test, Cond, True, Not, Comparison, NoTest, MoreTest, FieldValue, Command, Commands, Skip, Assign, Write, Print, If, Block, SetField, SetRow, Foreach, Insert, Delete, Update, Abort, NoCommand, MoreCommand}
use Rattle.homeo_meaning.specs.Key.{definitions}
use Rattle.homeo_meaning.specs.Aborts.{holds_abort, hold_abort}
use Rattle.homeo_meaning.specs.Schema.{Declared}
use Rattle.homeo_meaning.specs.Context.{Spot, Slot, Context, spot, cell, field_cell, object, slots, fields, bind, slot_at}
use Rattle.homeo_meaning.specs.LowMeaning as M
use Rattle.homeo_meaning.specs.LowWrites.{object_in, with_number, written, all_written}
use Rattle.homeo_meaning.specs.LForm.{Lifted, Made, both, one, in_front, guard, in_turn, visits, counted, read_chain, read_slot, literal_of, indexed_by, name_of, lift, lift_all, lift_test, lift_cond, write_to, write_field, write_chain, write_at, write_by, stored, lift_values, field_writes, fill_chain, as_one, clear, form, forms}
use Rattle.homeo_lform.specs.SourceWrites.{absent_zero, given_field, given, at_each, at_slot, by_index, filled, writes, all_writes}
use Rattle.homeo_lform.proofs.Writes.{fill_end}

-- ---- lists of commands
both_written : (cs ds : L.Commands) (xs : List ℕ) → all_written (both cs ds) xs ≡ all_written ds (all_written cs xs)
unfolding definitions
both_written L.NoCommand ds xs = refl
both_written (L.MoreCommand c cs) ds xs = both_written cs ds (written c xs)

-- commands that write nothing
abbrev Silent : L.Commands → Type 0
Silent cs = (xs : List ℕ) → all_written cs xs ≡ xs

both_silent : (cs ds : L.Commands) → Silent cs → Silent ds → Silent (both cs ds)
both_silent cs ds h k xs = both_written cs ds xs ∙ ap (all_written ds) (h xs) ∙ k xs

front_written : (cs : L.Commands) (c : L.Command) (xs : List ℕ) → Silent cs → written (in_front cs c) xs ≡ written c xs
unfolding definitions
front_written L.NoCommand c xs h = refl
front_written (L.MoreCommand b bs) c xs h = both_written (L.MoreCommand b bs) (one c) xs ∙ ap (written c) (h xs)

turn_written : (g : Bool) (before : L.Commands) (c : L.Command) (more : L.Commands) (xs : List ℕ) → Silent before → all_written (in_turn g before c more) xs ≡ all_written more (written c xs)
unfolding definitions
turn_written true before c more xs h = ap (all_written more) (front_written before c xs h)
turn_written false before c more xs h = both_written before (L.MoreCommand c more) xs ∙ ap (λ ys. all_written more (written c ys)) (h xs)

guard_written : (g : Bool) (c : L.Command) (xs : List ℕ) → written (guard g c) xs ≡ written c xs
unfolding definitions
guard_written true c xs = refl
guard_written false c xs = refl

-- ---- liftings
visits_written : (test : Slot → ℕ → Lifted L.Cond) (body : Slot → ℕ → Made) (f : Slot → List ℕ → List ℕ) → ((slot : Slot) (m : ℕ) → Silent (test slot m).before)
    → ((slot : Slot) (m : ℕ) (xs : List ℕ) → written (body slot m).command xs ≡ f slot xs)
    → (all : List Slot) (g later : Bool) (n : ℕ) (xs : List ℕ) → all_written (visits g later test body all n).commands xs ≡ at_each f all xs
unfolding definitions
visits_written test body f h k [] g later n xs = refl
visits_written test body f h k (slot ∷ more) g later n xs =
    let b = test slot n in
    let c = body slot b.next in
    let others = (visits later later test body more c.next).commands in
    turn_written g b.before _ others xs (h slot n)
    ∙ ap (all_written others) (k slot b.next xs)
    ∙ visits_written test body f h k more later later c.next (f slot xs)

each_same : (all : List Slot) (xs : List ℕ) → at_each (λ slot ys. ys) all xs ≡ xs
unfolding definitions
each_same [] xs = refl
each_same (slot ∷ more) xs = each_same more xs

counted_silent : (test : Slot → ℕ → Lifted L.Cond) (term : Slot → L.Expr) → ((slot : Slot) (m : ℕ) → Silent (test slot m).before) → (all : List Slot) (n : ℕ) → Silent (counted test term all n).before
unfolding definitions
counted_silent test term h all n xs =
    visits_written test (λ slot m. record { command = L.Assign (temp.Fresh n) (L.Sum (L.MoreExpr (L.OfTemp (temp.Fresh n)) (L.MoreExpr (term slot) L.NoExpr))); next = m })
    (λ slot ys. ys) h (λ slot m ys. refl) all false false (suc n) xs
    ∙ each_same all xs

read_chain_silent : (f : Spot) (e : L.Expr) (t : ℕ) (all : List Slot) (xs : List ℕ) → written (read_chain f e t all) xs ≡ xs
unfolding definitions
read_chain_silent f e t [] xs = refl
read_chain_silent f e t (slot ∷ more) xs = read_chain_silent f e t more xs

indexed_silent : (o : Option ℤ) (all : List Slot) (f : Spot) (x : Lifted L.Expr) → Silent x.before → Silent (indexed_by o all f x).before
unfolding definitions
indexed_silent (Some v) all f x h = λ xs. refl
indexed_silent None all f x h = both_silent x.before (one (read_chain f x.phrase x.next all)) h (read_chain_silent f x.phrase x.next all)

mutual
  unfolding definitions

  lift_silent : (w : Context) (e : Expr) (n : ℕ) → Silent (lift w e n).before
  lift_silent w (Literal v) n = λ xs. refl
  lift_silent w (Name x) n = λ xs. refl
  lift_silent w (Read x) n = λ xs. refl
  lift_silent w (Sum es) n = all_silent w es n
  lift_silent w (Product es) n = all_silent w es n
  lift_silent w (Neg e) n = lift_silent w e n
  lift_silent w (Field q e f) n = indexed_silent (literal_of (lift w e n).phrase) (slots w q.name) (spot (fields w q.name) f.name) (lift w e n) (lift_silent w e n)
  lift_silent w (Row r f) n = λ xs. refl
  lift_silent w (Count r q b) n = counted_silent (λ slot. lift_cond (bind w r.name slot) b) _ (λ slot m. cond_silent (bind w r.name slot) b m) (slots w q.name) n
  lift_silent w (Total r f q b) n = counted_silent (λ slot. lift_cond (bind w r.name slot) b) _ (λ slot m. cond_silent (bind w r.name slot) b m) (slots w q.name) n

  all_silent : (w : Context) (es : Exprs) (n : ℕ) → Silent (lift_all w es n).before
  all_silent w NoExpr n = λ xs. refl
  all_silent w (MoreExpr e es) n = both_silent (lift w e n).before (lift_all w es (lift w e n).next).before (lift_silent w e n) (all_silent w es (lift w e n).next)

  test_silent : (w : Context) (t : Test) (n : ℕ) → Silent (lift_test w t n).before
  test_silent w True n = λ xs. refl
  test_silent w (Not c) n = cond_silent w c n
  test_silent w (Comparison op a b) n = both_silent (lift w a n).before (lift w b (lift w a n).next).before (lift_silent w a n) (lift_silent w b (lift w a n).next)

  cond_silent : (w : Context) (c : Cond) (n : ℕ) → Silent (lift_cond w c n).before
  cond_silent w NoTest n = λ xs. refl
  cond_silent w (MoreTest t c) n = both_silent (lift_test w t n).before (lift_cond w c (lift_test w t n).next).before (test_silent w t n) (cond_silent w c (lift_test w t n).next)

-- ---- an index
pub name_literal : (o : Option ℤ) (t : ℕ) → literal_of (name_of o t) ≡ o
unfolding definitions
name_literal (Some v) t = refl
name_literal None t = refl

slot_literal : (f : Spot) (o : Option Slot) → literal_of (read_slot f o) ≡ absent_zero o
unfolding definitions
slot_literal f (Some slot) = refl
slot_literal f None = refl

indexed_literal : (o : Option ℤ) (all : List Slot) (f : Spot) (x : Lifted L.Expr) → literal_of (indexed_by o all f x).phrase ≡ given_field o all
unfolding definitions
indexed_literal (Some v) all f x = slot_literal f (slot_at v all)
indexed_literal None all f x = refl

pub given_literal : (w : Context) (e : Expr) (n : ℕ) → literal_of (lift w e n).phrase ≡ given w e
unfolding definitions
given_literal w (Literal v) n = refl
given_literal w (Name x) n = name_literal (w.arguments x.name) x.name
given_literal w (Read x) n = refl
given_literal w (Sum es) n = refl
given_literal w (Product es) n = refl
given_literal w (Neg e) n = refl
given_literal w (Field q e f) n =
    indexed_literal (literal_of (lift w e n).phrase) (slots w q.name) (spot (fields w q.name) f.name) (lift w e n)
    ∙ ap (λ o. given_field o (slots w q.name)) (given_literal w e n)
given_literal w (Row r f) n = refl
given_literal w (Count r q b) n = refl
given_literal w (Total r f q b) n = refl

-- ---- writes
to_written : (b : Spot) (x : ℕ) (e : Lifted L.Expr) (xs : List ℕ) → Silent e.before → written (write_to b x e).command xs ≡ with_number x xs
unfolding definitions
to_written b x e xs h = front_written e.before _ xs h

write_chain_written : (f : Spot) (i e : L.Expr) (all : List Slot) (xs : List ℕ) → written (write_chain f i e all) xs ≡ at_each (λ slot. with_number (cell slot f)) all xs
unfolding definitions
write_chain_written f i e [] xs = refl
write_chain_written f i e (slot ∷ more) xs = write_chain_written f i e more (with_number (cell slot f) xs)

at_written : (o : Option Slot) (f : Spot) (n : ℕ) (y : ℕ → Lifted L.Expr) (xs : List ℕ) → ((m : ℕ) → Silent (y m).before) → written (write_at o f n y).command xs ≡ at_slot o f xs
unfolding definitions
at_written None f n y xs h = refl
at_written (Some slot) f n y xs h = to_written f (cell slot f) (y n) xs (h n)

by_written : (o : Option ℤ) (all : List Slot) (f : Spot) (x : Lifted L.Expr) (y : ℕ → Lifted L.Expr) (xs : List ℕ) → Silent x.before → ((m : ℕ) → Silent (y m).before) → written (write_by o all f x y).command xs ≡ by_index o all f xs
unfolding definitions
by_written (Some v) all f x y xs h k = at_written (slot_at v all) f x.next y xs k
by_written None all f x y xs h k =
    front_written (both x.before (y x.next).before) _ xs (both_silent x.before (y x.next).before h (k x.next))
    ∙ write_chain_written f x.phrase (y x.next).phrase all xs

-- ---- an insert
values_silent : (w : Context) (ds : List Declared) (fs : List FieldValue) (n : ℕ) → Silent (lift_values w ds fs n).before
unfolding definitions
values_silent w ds [] n = λ xs. refl
values_silent w ds (f ∷ fs) n =
    let x = lift w f.value n in
    both_silent (stored (spot ds f.field.name) x).before (lift_values w ds fs (suc x.next)).before (both_silent x.before _ (lift_silent w f.value n) (λ xs. refl)) (values_silent w ds fs (suc x.next))

filled_written : (w : Context) (ds : List Declared) (slot : Slot) (t : ℕ) (fs : List FieldValue) (n : ℕ) (xs : List ℕ) → all_written (field_writes slot (lift_values w ds fs n).phrase (fill_end slot t)) xs ≡ filled ds fs slot xs
unfolding definitions
filled_written w ds slot t [] n xs = refl
filled_written w ds slot t (f ∷ fs) n xs = filled_written w ds slot t fs (suc (lift w f.value n).next) (with_number (cell slot (spot ds f.field.name)) xs)

fill_chain_written : (w : Context) (ds : List Declared) (fs : List FieldValue) (t n : ℕ) (all : List Slot) (xs : List ℕ) → written (fill_chain (lift_values w ds fs n).phrase t all) xs ≡ at_each (filled ds fs) all xs
unfolding definitions
fill_chain_written w ds fs t n [] xs = refl
fill_chain_written w ds fs t n (slot ∷ more) xs =
    ap (written (fill_chain (lift_values w ds fs n).phrase t more)) (filled_written w ds slot t fs n xs)
    ∙ fill_chain_written w ds fs t n more (filled ds fs slot xs)

-- ---- commands
mutual
  unfolding definitions

  pub form_written : (w : Context) (c : Command) (n : ℕ) (xs : List ℕ) → written (form w c n).command xs ≡ writes w c xs
  form_written w Skip n xs = refl
  form_written w (Assign t e) n xs = front_written (lift w e n).before _ xs (lift_silent w e n)
  form_written w (Write o e) n xs = to_written (object w o.name) (object w o.name).place (lift w e n) xs (lift_silent w e n)
  form_written w (Print e) n xs = front_written (lift w e n).before _ xs (lift_silent w e n)
  form_written w (If b c d) n xs =
      let x = lift_cond w b n in
      front_written x.before _ xs (cond_silent w b n)
      ∙ ap (written (form w d (form w c x.next).next).command) (form_written w c x.next xs)
      ∙ form_written w d (form w c x.next).next (writes w c xs)
  form_written w (Block cs) n xs = forms_written w false cs n xs
  form_written w (SetField q i f e) n xs =
      by_written (literal_of (lift w i n).phrase) (slots w q.name) (spot (fields w q.name) f.name) (lift w i n) (lift w e) xs (lift_silent w i n) (lift_silent w e)
      ∙ ap (λ o. by_index o (slots w q.name) (spot (fields w q.name) f.name) xs) (given_literal w i n)
  form_written w (SetRow r f e) n xs = to_written (spot (w.rows r.name).fields f.name) (field_cell (w.rows r.name) f.name) (lift w e n) xs (lift_silent w e n)
  form_written w (Foreach r q b body) n xs =
      visits_written (λ slot. lift_cond (bind w r.name slot) b) (λ slot m. as_one (forms (bind w r.name slot) false body m)) (λ slot. all_writes (bind w r.name slot) body)
      (λ slot m. cond_silent (bind w r.name slot) b m) (λ slot m ys. forms_written (bind w r.name slot) false body m ys) (slots w q.name) false (hold_abort body) n xs
  form_written w (Insert q fs t) n xs =
      let x = lift_values w (fields w q.name) fs n in
      both_written x.before _ xs
      ∙ ap (written (fill_chain x.phrase t.name (slots w q.name))) (values_silent w (fields w q.name) fs n xs)
      ∙ fill_chain_written w (fields w q.name) fs t.name n (slots w q.name) xs
  form_written w (Delete r q b) n xs =
      visits_written (λ slot. lift_cond (bind w r.name slot) b) clear (λ slot. with_number slot.used) (λ slot m. cond_silent (bind w r.name slot) b m) (λ slot m ys. refl) (slots w q.name) false false n xs
  form_written w (Update r q b f e) n xs =
      visits_written (λ slot. lift_cond (bind w r.name slot) b) (λ slot m. write_field slot f.name (lift (bind w r.name slot) e m)) (λ slot. with_number (field_cell slot f.name))
      (λ slot m. cond_silent (bind w r.name slot) b m) (λ slot m ys. to_written (spot slot.fields f.name) (field_cell slot f.name) (lift (bind w r.name slot) e m) ys (lift_silent (bind w r.name slot) e m)) (slots w q.name) false false n xs
  form_written w Abort n xs = refl

  pub forms_written : (w : Context) (g : Bool) (cs : Commands) (n : ℕ) (xs : List ℕ) → all_written (forms w g cs n).commands xs ≡ all_writes w cs xs
  forms_written w g NoCommand n xs = refl
  forms_written w g (MoreCommand c cs) n xs =
      let x = form w c n in
      let others = (forms w (g || holds_abort c) cs x.next).commands in
      ap (all_written others) (guard_written g x.command xs ∙ form_written w c n xs)
      ∙ forms_written w (g || holds_abort c) cs x.next (writes w c xs)

-- ---- what isn't written stays
abbrev pub among : ℕ → List ℕ → Bool
among k [] = false
among k (m ∷ ms) = (m == k) || among k ms

not_among : (k n : ℕ) (ms : List ℕ) → among k (with_number n ms) ≡ false → ((n == k) ≡ false) × (among k ms ≡ false)
unfolding definitions
not_among k n [] h = ((or_parts (n == k) false h).0, refl)
not_among k n (m ∷ ms) h = by_case (not_among k n ms) (nat_lt n m) (n == m) refl h
  where
    by_case : (among k (with_number n ms) ≡ false → ((n == k) ≡ false) × (among k ms ≡ false)) → (a b : Bool) → (n == m) ≡ b → among k (cond a (n ∷ m ∷ ms) (cond b (m ∷ ms) (m ∷ with_number n ms))) ≡ false → ((n == k) ≡ false) × (among k (m ∷ ms) ≡ false)
    by_case ih true b e h = or_parts (n == k) (among k (m ∷ ms)) h
    by_case ih false true e h =
        let same : n ≡ m = grind (arith, nat_tests) in
        (ap (λ j. j == k) same ∙ (or_parts (m == k) (among k ms) h).0, h)
    by_case ih false false e h =
        let p = or_parts (m == k) (among k (with_number n ms)) h in
        let q = ih p.1 in
        (q.0, ap (λ z. z || among k ms) p.0 ∙ q.1)

write_stays : (x : SplitName) (v : ℤ) (k : ℕ) (s : M.State) → (object_in x == k) ≡ false → M.put s (M.location_of x) v (M.BaseAt k) ≡ s (M.BaseAt k)
unfolding definitions
write_stays (split.Whole y) v k s e = ap (λ z. cond z v (s (M.BaseAt k))) e
write_stays (split.Base y) v k s e = ap (λ z. cond z v (s (M.BaseAt k))) e
write_stays (split.Delta y j) v k s e = refl

pub record Stays (k : ℕ) (xs : List ℕ) (run : M.State → M.Run) : Type 0 where
  pub before : among k xs ≡ false
  pub keeps : (s : M.State) → (run s).state (M.BaseAt k) ≡ s (M.BaseAt k)

mutual
  unfolding definitions

  stays : (c : L.Command) (k : ℕ) (xs : List ℕ) → among k (written c xs) ≡ false → Stays k xs (M.exec c)
  stays L.Skip k xs h = record { before = h; keeps = λ s. refl }
  stays (L.Assign t e) k xs h = record { before = h; keeps = λ s. refl }
  stays (L.Write x e) k xs h =
      let p = not_among k (object_in x) xs h in
      record { before = p.1; keeps = λ s. write_stays x (M.value e s) k s p.0 }
  stays (L.Print e) k xs h = record { before = h; keeps = λ s. refl }
  stays (L.Seq cs) k xs h = all_stay cs k xs h
  stays (L.If b c d) k xs h =
      let q = stays d k (written c xs) h in
      let p = stays c k xs q.before in
      record { before = p.before; keeps = λ s. either s (M.holds b s) (p.keeps s) (q.keeps s) }
    where
      either : (s : M.State) (v : Bool) → (M.exec c s).state (M.BaseAt k) ≡ s (M.BaseAt k) → (M.exec d s).state (M.BaseAt k) ≡ s (M.BaseAt k) → (cond v (M.exec c s) (M.exec d s)).state (M.BaseAt k) ≡ s (M.BaseAt k)
      either s true p q = p
      either s false p q = q

  pub all_stay : (cs : L.Commands) (k : ℕ) (xs : List ℕ) → among k (all_written cs xs) ≡ false → Stays k xs (M.exec_all cs)
  all_stay L.NoCommand k xs h = record { before = h; keeps = λ s. refl }
  all_stay (L.MoreCommand c cs) k xs h =
      let q = all_stay cs k (written c xs) h in
      let p = stays c k xs q.before in
      record { before = p.before; keeps = λ s. q.keeps (M.exec c s).state ∙ p.keeps s }
