-- The count of print commands is that of the L form: liftings print nothing, and a loop's body stands once for each slot.
use Rattle.std.proofs.Common.{◌≡◌, ℕ, suc, Bool, true, false, ◌||◌, ◌+◌, ◌*◌, List, [], ◌∷◌, length, ℤ, pos, Option, Some, None, refl, sym, ap, ap₂, ◌∙◌, arith, zero-add, mul-zero}
use Rattle.std.proofs.lemmas.Int.{clamps}
use Rattle.homeo_lemmas.proofs.Naturals.{suc_times}
use Rattle.homeo_syntax.specs.declared.low.Temp.TheVariants as temp
use Rattle.homeo_syntax.specs.declared.low.SplitName.TheVariants as split
use Rattle.homeo_syntax.specs.Low as L
use Rattle.homeo_syntax.specs.Source.{Expr, Exprs, Literal, Name, Read, Sum, Product, Neg, Field, Row, Count, Total, NoExpr, MoreExpr, Test, Cond, True, Not, Comparison, NoTest, MoreTest, FieldValue, Command, Commands, Skip, Assign, Write, Print, If, Block, SetField, SetRow, Foreach, Insert, Delete, Update, Abort, NoCommand, MoreCommand}
use Rattle.homeo_meaning.specs.Key.{definitions as meaning_definitions}
use Rattle.homeo_meaning.specs.Schema.{Declared}
use Rattle.homeo_meaning.specs.Context.{Spot, Slot, Context, spot, field_cell, object, slots, fields, bind, slot_at}
use Rattle.homeo_meaning.specs.Aborts.{holds_abort, hold_abort}
use Rattle.homeo_meaning.specs.LForm as form
use Rattle.homeo_meaning.specs.LForm.{Lifted, Made, both, one, in_front, equal, read, fresh, read_chain, literal_of, indexed_by, write_chain, write_at, write_by, visits, counted, pair, Target, all_within, field_writes, fill_chain, lift, lift_all, lift_test, lift_cond, lift_values}
use Rattle.homeo_meaning.specs.LowSizes.{prints_in, prints_in_all}
use Rattle.homeo_size.specs.inner.Key.{definitions}
use Rattle.homeo_size.specs.inner.Prints.{print_cap, prints, all_prints}
use Rattle.homeo_size.proofs.Caps.{cap_sum, cap_product}

both_print : (cs ds : L.Commands) → prints_in_all (both cs ds) ≡ prints_in_all cs + prints_in_all ds
unfolding meaning_definitions
both_print L.NoCommand ds = sym (zero-add (prints_in_all ds))
both_print (L.MoreCommand c cs) ds = let e = both_print cs ds in omega (arith, e)

front_prints : (cs : L.Commands) (c : L.Command) → prints_in_all cs ≡ 0 → prints_in (in_front cs c) ≡ prints_in c
unfolding meaning_definitions
front_prints L.NoCommand c h = refl
front_prints (L.MoreCommand b bs) c h = let e = both_print bs (one c) in omega (arith, e, h)

-- a lifting that prints nothing
abbrev Quiet : {A : Type 0} → Lifted A → Type 0
Quiet x = prints_in_all x.before ≡ 0

combined_quiet : {A B C : Type 0} (f : A → B → C) (x : Lifted A) (y : ℕ → Lifted B) → Quiet x → ((m : ℕ) → Quiet (y m)) → Quiet (form.combined f x y)
unfolding meaning_definitions
combined_quiet f x y h k =
    let e = both_print x.before (y x.next).before in
    let l = k x.next in
    omega (arith, e, h, l)

stored_quiet : (cs : L.Commands) (c : L.Command) → prints_in_all cs ≡ 0 → prints_in c ≡ 0 → prints_in_all (both cs (one c)) ≡ 0
unfolding meaning_definitions
stored_quiet cs c h k = let e = both_print cs (one c) in omega (arith, e, h, k)

read_chain_quiet : (f : Spot) (e : L.Expr) (t : ℕ) (all : List Slot) → prints_in (read_chain f e t all) ≡ 0
unfolding meaning_definitions
read_chain_quiet f e t [] = refl
read_chain_quiet f e t (slot ∷ more) = let h = read_chain_quiet f e t more in omega (arith, h)

indexed_quiet : (o : Option ℤ) (all : List Slot) (f : Spot) (x : Lifted L.Expr) → Quiet x → Quiet (indexed_by o all f x)
unfolding meaning_definitions
indexed_quiet (Some v) all f x h = refl
indexed_quiet None all f x h = stored_quiet x.before (read_chain f x.phrase x.next all) h (read_chain_quiet f x.phrase x.next all)

turn_prints : (g : Bool) (before : L.Commands) (c : L.Command) (more : L.Commands) → prints_in_all before ≡ 0 → prints_in_all (form.in_turn g before c more) ≡ prints_in c + prints_in_all more
unfolding meaning_definitions
turn_prints true before c more h = let e = front_prints before c h in omega (arith, e)
turn_prints false before c more h = let e = both_print before (L.MoreCommand c more) in omega (arith, e, h)

guard_prints : (g : Bool) (c : L.Command) → prints_in (form.guard g c) ≡ prints_in c
unfolding meaning_definitions
guard_prints true c = omega arith
guard_prints false c = refl

visits_print : (g later : Bool) (test : Slot → ℕ → Lifted L.Cond) (body : Slot → ℕ → Made) (p : ℕ) → ((slot : Slot) (m : ℕ) → Quiet (test slot m)) → ((slot : Slot) (m : ℕ) → prints_in (body slot m).command ≡ p) → (all : List Slot) (m : ℕ) → prints_in_all (visits g later test body all m).commands ≡ length all * p
unfolding meaning_definitions
visits_print g later test body p h k [] m = omega arith
visits_print g later test body p h k (slot ∷ more) m =
    let b = test slot m in
    let c = body slot b.next in
    let others : L.Commands = (visits later later test body more c.next).commands in
    let if_else : L.Command = L.If (L.MoreTest (equal (read slot.used) (pos 1)) b.phrase) c.command L.Skip in
    let rest = visits_print later later test body p h k more c.next in
    let e = turn_prints g b.before if_else others (h slot m) in
    let one' = k slot b.next in
    let s = suc_times (length more) p in
    omega (arith, rest, e, one', s)

counted_quiet : (test : Slot → ℕ → Lifted L.Cond) (term : Slot → L.Expr) (all : List Slot) (n : ℕ) → ((slot : Slot) (m : ℕ) → Quiet (test slot m)) → Quiet (counted test term all n)
unfolding meaning_definitions
counted_quiet test term all n h =
    let v = visits_print false false test (λ slot m. record { command = L.Assign (temp.Fresh n) (L.Sum (L.MoreExpr (fresh n) (L.MoreExpr (term slot) L.NoExpr))); next = m }) 0 h (λ slot m. refl) all (suc n) in
    let z = mul-zero (length all) in
    omega (arith, v, z)

mutual
  unfolding meaning_definitions

  expr_quiet : (w : Context) (e : Expr) (n : ℕ) → Quiet (lift w e n)
  expr_quiet w (Literal v) n = refl
  expr_quiet w (Name t) n = refl
  expr_quiet w (Read o) n = refl
  expr_quiet w (Sum es) n = exprs_quiet w es n
  expr_quiet w (Product es) n = exprs_quiet w es n
  expr_quiet w (Neg e) n = expr_quiet w e n
  expr_quiet w (Field q e f) n = indexed_quiet (literal_of (lift w e n).phrase) (slots w q.name) (spot (fields w q.name) f.name) (lift w e n) (expr_quiet w e n)
  expr_quiet w (Row r f) n = refl
  expr_quiet w (Count r q c) n = counted_quiet (λ slot. lift_cond (bind w r.name slot) c) (λ slot. L.Literal (pos 1)) (slots w q.name) n (λ slot m. cond_quiet (bind w r.name slot) c m)
  expr_quiet w (Total r f q c) n = counted_quiet (λ slot. lift_cond (bind w r.name slot) c) _ (slots w q.name) n (λ slot m. cond_quiet (bind w r.name slot) c m)

  exprs_quiet : (w : Context) (es : Exprs) (n : ℕ) → Quiet (lift_all w es n)
  exprs_quiet w NoExpr n = refl
  exprs_quiet w (MoreExpr e es) n = combined_quiet L.MoreExpr (lift w e n) (lift_all w es) (expr_quiet w e n) (exprs_quiet w es)

  test_quiet : (w : Context) (t : Test) (n : ℕ) → Quiet (lift_test w t n)
  test_quiet w True n = refl
  test_quiet w (Not c) n = cond_quiet w c n
  test_quiet w (Comparison op a b) n = combined_quiet (L.Comparison op) (lift w a n) (lift w b) (expr_quiet w a n) (expr_quiet w b)

  cond_quiet : (w : Context) (c : Cond) (n : ℕ) → Quiet (lift_cond w c n)
  cond_quiet w NoTest n = refl
  cond_quiet w (MoreTest t c) n = combined_quiet L.MoreTest (lift_test w t n) (lift_cond w c) (test_quiet w t n) (cond_quiet w c)

-- ---- commands that print nothing
write_chain_quiet : (f : Spot) (i e : L.Expr) (all : List Slot) → prints_in (write_chain f i e all) ≡ 0
unfolding meaning_definitions
write_chain_quiet f i e [] = refl
write_chain_quiet f i e (slot ∷ more) = let h = write_chain_quiet f i e more in omega (arith, h)

write_quiet : (b : Spot) (o : ℕ) (e : Lifted L.Expr) → Quiet e → prints_in (form.write_to b o e).command ≡ 0
unfolding meaning_definitions
write_quiet b o e h = front_prints e.before (form.guarded b o e.phrase) h

at_quiet : (o : Option Slot) (f : Spot) (n : ℕ) (y : ℕ → Lifted L.Expr) → ((m : ℕ) → Quiet (y m)) → prints_in (write_at o f n y).command ≡ 0
unfolding meaning_definitions
at_quiet None f n y h = refl
at_quiet (Some slot) f n y h = write_quiet f _ (y n) (h n)

by_quiet : (o : Option ℤ) (all : List Slot) (f : Spot) (x : Lifted L.Expr) (y : ℕ → Lifted L.Expr) → Quiet x → ((m : ℕ) → Quiet (y m)) → prints_in (write_by o all f x y).command ≡ 0
unfolding meaning_definitions
by_quiet (Some v) all f x y h k = at_quiet (slot_at v all) f x.next y k
by_quiet None all f x y h k =
    let chain = write_chain_quiet f x.phrase (y x.next).phrase all in
    let front = front_prints (both x.before (y x.next).before) (L.If (form.within f (y x.next).phrase L.NoTest) (write_chain f x.phrase (y x.next).phrase all) L.Skip) (combined_quiet pair x y h k) in
    omega (arith, chain, front)

values_quiet : (w : Context) (ds : List Declared) (fs : List FieldValue) (n : ℕ) → Quiet (lift_values w ds fs n)
unfolding meaning_definitions
values_quiet w ds [] n = refl
values_quiet w ds (f ∷ fs) n =
    combined_quiet ◌∷◌ (form.stored (spot ds f.field.name) (lift w f.value n)) (lift_values w ds fs)
    (stored_quiet (lift w f.value n).before (L.Assign (temp.Fresh (lift w f.value n).next) (lift w f.value n).phrase) (expr_quiet w f.value n) refl) (values_quiet w ds fs)

writes_quiet : (slot : Slot) (xs : List Target) (cs : L.Commands) → prints_in_all cs ≡ 0 → prints_in_all (field_writes slot xs cs) ≡ 0
unfolding meaning_definitions
writes_quiet slot [] cs h = h
writes_quiet slot (t ∷ ts) cs h = let k = writes_quiet slot ts cs h in omega (arith, k)

fill_chain_quiet : (xs : List Target) (t : ℕ) (all : List Slot) → prints_in (fill_chain xs t all) ≡ 0
unfolding meaning_definitions
fill_chain_quiet xs t [] = refl
fill_chain_quiet xs t (slot ∷ more) =
    let h = fill_chain_quiet xs t more in
    let k = writes_quiet slot xs (L.MoreCommand (L.Write (split.Whole slot.used) (L.Literal (pos 1))) (one (L.Assign (temp.Named t) (L.Literal (pos (suc slot.number)))))) refl in
    omega (arith, h, k)

insert_quiet : (w : Context) (ds : List Declared) (fs : List FieldValue) (all : List Slot) (t n : ℕ) → prints_in (form.inserted all t (lift_values w ds fs n)).command ≡ 0
unfolding meaning_definitions
insert_quiet w ds fs all t n =
    let x : Lifted (List Target) = lift_values w ds fs n in
    let chain = fill_chain_quiet x.phrase t all in
    stored_quiet x.before (L.If (all_within x.phrase) (fill_chain x.phrase t all) (L.Assign (temp.Named t) (L.Literal (pos 0)))) (values_quiet w ds fs n) (omega (arith, chain))

loop_quiet : (w : Context) (r q : ℕ) (c : Cond) (body : Slot → ℕ → Made) (n : ℕ) → ((slot : Slot) (m : ℕ) → prints_in (body slot m).command ≡ 0) → prints_in (form.loop w r q c false body n).command ≡ 0
unfolding meaning_definitions
loop_quiet w r q c body n h =
    visits_print false false (λ slot. lift_cond (bind w r slot) c) body 0 (λ slot m. cond_quiet (bind w r slot) c m) h (slots w q) n ∙ mul-zero (length (slots w q))

-- ---- all commands, where x has the slots of the context
module _ (x : Context) where
  -- the prints without a cap, which are the same whatever the row and the number of the next temporary
  abbrev mutual
    exact : Command → ℕ
    exact Skip = 0
    exact (Assign t e) = 0
    exact (Write o e) = 0
    exact (Print e) = 1
    exact (If b c d) = exact c + exact d
    exact (Block cs) = exact_all cs
    exact (SetField q i f e) = 0
    exact (SetRow r f e) = 0
    exact (Foreach r q c cs) = length (slots x q.name) * exact_all cs
    exact (Insert q fs t) = 0
    exact (Delete r q c) = 0
    exact (Update r q c f e) = 0
    exact Abort = 0

    exact_all : Commands → ℕ
    exact_all NoCommand = 0
    exact_all (MoreCommand c cs) = exact c + exact_all cs

  abbrev pub HasSlots : Context → Type 0
  HasSlots w = (q : ℕ) → slots x q ≡ slots w q

  mutual
    unfolding meaning_definitions

    command_exact : (w : Context) (h : HasSlots w) (c : Command) (n : ℕ) → prints_in (form.form w c n).command ≡ exact c
    command_exact w h Skip n = refl
    command_exact w h (Assign t e) n = front_prints (lift w e n).before (L.Assign (temp.Named t.name) (lift w e n).phrase) (expr_quiet w e n)
    command_exact w h (Write o e) n = write_quiet (object w o.name) (object w o.name).place (lift w e n) (expr_quiet w e n)
    command_exact w h (Print e) n = front_prints (lift w e n).before (L.Print (lift w e n).phrase) (expr_quiet w e n)
    command_exact w h (If b c d) n =
        let y = lift_cond w b n in
        let p = form.form w c y.next in
        let q = form.form w d p.next in
        front_prints y.before (L.If y.phrase p.command q.command) (cond_quiet w b n) ∙ ap₂ ◌+◌ (command_exact w h c y.next) (command_exact w h d p.next)
    command_exact w h (Block cs) n = commands_exact w h false cs n
    command_exact w h (SetField q i f e) n =
        by_quiet (literal_of (lift w i n).phrase) (slots w q.name) (spot (fields w q.name) f.name) (lift w i n) (lift w e) (expr_quiet w i n) (expr_quiet w e)
    command_exact w h (SetRow r f e) n = write_quiet (spot (w.rows r.name).fields f.name) (field_cell (w.rows r.name) f.name) (lift w e n) (expr_quiet w e n)
    command_exact w h (Foreach r q c cs) n =
        visits_print false (hold_abort cs) (λ slot. lift_cond (bind w r.name slot) c) (λ slot m. form.as_one (form.forms (bind w r.name slot) false cs m)) (exact_all cs) (λ slot m. cond_quiet (bind w r.name slot) c m) (λ slot m. commands_exact (bind w r.name slot) h false cs m) (slots w q.name) n
        ∙ ap (λ l. length l * exact_all cs) (sym (h q.name))
    command_exact w h (Insert q fs t) n = insert_quiet w (fields w q.name) fs (slots w q.name) t.name n
    command_exact w h (Delete r q c) n = loop_quiet w r.name q.name c form.clear n (λ slot m. refl)
    command_exact w h (Update r q c f e) n =
        loop_quiet w r.name q.name c (λ slot m. form.write_field slot f.name (lift (bind w r.name slot) e m)) n (λ slot m. write_quiet (spot slot.fields f.name) (field_cell slot f.name) (lift (bind w r.name slot) e m) (expr_quiet (bind w r.name slot) e m))
    command_exact w h Abort n = refl

    commands_exact : (w : Context) (h : HasSlots w) (g : Bool) (cs : Commands) (n : ℕ) → prints_in_all (form.forms w g cs n).commands ≡ exact_all cs
    commands_exact w h g NoCommand n = refl
    commands_exact w h g (MoreCommand c cs) n = ap₂ ◌+◌ (guard_prints g (form.form w c n).command ∙ command_exact w h c n) (commands_exact w h (g || holds_abort c) cs (form.form w c n).next)

  capped_product : (l p : ℕ) → print_cap (l * print_cap p) ≡ print_cap (l * p)
  capped_product l p = sym (cap_product 1000001 l (print_cap p)) ∙ ap (λ k. print_cap (print_cap l * k)) (again p) ∙ cap_product 1000001 l p
    where
      again : (p : ℕ) → print_cap (print_cap p) ≡ print_cap p
      again p = omega (arith, clamps)

  mutual
    unfolding definitions

    command_capped : (c : Command) → prints x c ≡ print_cap (exact c)
    command_capped Skip = refl
    command_capped (Assign t e) = refl
    command_capped (Write o e) = refl
    command_capped (Print e) = refl
    command_capped (If b c d) = ap₂ (λ k l. print_cap (k + l)) (command_capped c) (command_capped d) ∙ cap_sum 1000001 (exact c) (exact d)
    command_capped (Block cs) = commands_capped cs 0 ∙ ap print_cap (zero-add (exact_all cs))
    command_capped (SetField q i f e) = refl
    command_capped (SetRow r f e) = refl
    command_capped (Foreach r q c cs) =
        ap (λ k. print_cap (length (slots x q.name) * k)) (commands_capped cs 0 ∙ ap print_cap (zero-add (exact_all cs)))
        ∙ capped_product (length (slots x q.name)) (exact_all cs)
    command_capped (Insert q fs t) = refl
    command_capped (Delete r q c) = refl
    command_capped (Update r q c f e) = refl
    command_capped Abort = refl

    commands_capped : (cs : Commands) (k : ℕ) → all_prints x cs (print_cap k) ≡ print_cap (k + exact_all cs)
    commands_capped NoCommand k = ap print_cap (plus_none k)
      where
        plus_none : (k : ℕ) → k ≡ k + 0
        plus_none k = omega arith
    commands_capped (MoreCommand c cs) k =
        ap (λ m. all_prints x cs (print_cap (print_cap k + m))) (command_capped c)
        ∙ ap (all_prints x cs) (cap_sum 1000001 k (exact c))
        ∙ commands_capped cs (k + exact c)
        ∙ ap print_cap (assoc k (exact c) (exact_all cs))
      where
        assoc : (a b c : ℕ) → (a + b) + c ≡ a + (b + c)
        assoc a b c = omega arith

  -- ---- what stands round a body that can end its call
  saves_print : (n : ℕ) (xs : List ℕ) (more : L.Commands) → prints_in_all (form.saves n xs more) ≡ prints_in_all more
  unfolding meaning_definitions
  saves_print n [] more = refl
  saves_print n (o ∷ xs) more = let e = saves_print (suc n) xs more in omega (arith, e)

  restores_print : (n : ℕ) (xs : List ℕ) → prints_in_all (form.restores n xs) ≡ 0
  unfolding meaning_definitions
  restores_print n [] = refl
  restores_print n (o ∷ xs) = let e = restores_print (suc n) xs in omega (arith, e)

  undoing_prints : (saved : List ℕ) (body : L.Commands) → prints_in (form.undoing saved body) ≡ prints_in_all body
  unfolding meaning_definitions
  undoing_prints saved body =
      let e = saves_print 1 saved (L.MoreCommand (L.Seq body) (one (form.undo saved))) in
      let f = restores_print 1 saved in
      omega (arith, e, f)

  body_exact : (w : Context) (h : HasSlots w) (b : Bool) (cs : Commands) → prints_in (form.body_by b w cs) ≡ exact_all cs
  unfolding meaning_definitions
  body_exact w h false cs = commands_exact w h false cs 0
  body_exact w h true cs =
      let saved : List ℕ = form.saved_in w cs in
      undoing_prints saved (form.forms w false cs (1 + length saved)).commands ∙ commands_exact w h false cs (1 + length saved)

  pub body_prints : (w : Context) (h : HasSlots w) (cs : Commands) → all_prints x cs 0 ≡ print_cap (prints_in (form.body_by (hold_abort cs) w cs))
  unfolding definitions meaning_definitions
  body_prints w h cs = commands_capped cs 0 ∙ ap print_cap (zero-add (exact_all cs) ∙ sym (body_exact w h (hold_abort cs) cs))
