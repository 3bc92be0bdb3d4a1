-- What holds of all that a source body names, and of the fresh temporaries that its form takes, holds everywhere in the form, which
-- takes at most as many of them as it has assignments.
use Rattle.std.proofs.Common.{◌≡◌, ℕ, suc, ◌+◌, ◌<◌, ◌≤◌, Bool, true, false, ◌||◌, List, [], ◌∷◌, ◌++◌, ℤ, pos, Option, Some, None, refl, arith}
use Rattle.homeo_syntax.specs.declared.low.Temp.{Temp}
use Rattle.homeo_syntax.specs.declared.low.Temp.TheVariants as temp
use Rattle.homeo_syntax.specs.declared.low.SplitName.{SplitName}
use Rattle.homeo_syntax.specs.declared.low.SplitName.TheVariants as split
use Rattle.homeo_syntax.specs.declared.phrase.Ident.{Ident}
use Rattle.homeo_syntax.specs.Low as L
use Rattle.homeo_syntax.specs.Source as s
use Rattle.homeo_syntax.specs.Key.{definitions as syntax_definitions}
use Rattle.homeo_syntax.specs.WellFormed.{EachInExpr, EachInExprs, EachInTest, EachInCond, EachInFields, EachInCommand, EachInCommands}
use Rattle.homeo_meaning.specs.Key.{definitions}
use Rattle.homeo_meaning.specs.Context.{Spot, Slot, Context, spot, cell, field_cell, object, slots, fields, bind, slot_at}
use Rattle.homeo_meaning.specs.Bindings.{Row}
use Rattle.homeo_meaning.specs.Occurrences.{Occurrence, at, within, TakesRelation, Assigns, in_expr, in_exprs, in_test, in_cond, in_fields, in_command, in_commands}
use Rattle.homeo_meaning.specs.Aborts.{holds_abort, hold_abort}
use Rattle.homeo_meaning.specs.LForm.{Lifted, Made, AllMade, both, one, in_front, guard, in_turn, combined, mapped, plain, visits, counted, equal, read, fresh, read_chain, read_slot, literal_of, indexed_by, name_of, lift, lift_all, lift_test, lift_cond, placed, guarded, write_to, write_field, write_chain, Pair, pair, write_at, write_by, Target, stored, lift_values, all_within, field_writes, fill_chain, as_one, loop, clear, form, forms}
use Rattle.homeo_meaning.specs.LForm as form
use Rattle.homeo_meaning.specs.Everywhere.{EverywhereInExpr, EverywhereInExprs, EverywhereInTest, EverywhereInCond, Everywhere, EverywhereInAll}
use Rattle.homeo_lform.proofs.Assigned.{assigns, all_assigns, both_count, front_count, turn_count, guard_count, chain_count, literal_next}
use Rattle.homeo_lform.proofs.Gives.{Gives}
use Rattle.homeo_lform.proofs.ObjectBounds.{Each, ForSome, each_first}

pub each_before : {X : Type 0} (P : X → Type 0) (xs ys : List X) → Each P (xs ++ ys) → Each P xs
each_before P [] ys h = tt
each_before P (x ∷ xs) ys h = (h.0, each_before P xs ys h.1)

pub each_behind : {X : Type 0} (P : X → Type 0) (xs ys : List X) → Each P (xs ++ ys) → Each P ys
each_behind P [] ys h = h
each_behind P (x ∷ xs) ys h = each_behind P xs ys h.1

-- ---- what holds everywhere, where it holds of the fresh temporaries below a number, and the flag's is below it
module _ (P : SplitName → Type 0) (Q : Temp → Type 0) (b : ℕ) (flag_below : 0 < b) (each_fresh : (m : ℕ) → m < b → Q (temp.Fresh m)) where
  abbrev Whole : ℕ → Type 0
  Whole x = P (split.Whole x)

  abbrev InExpr : L.Expr → Type 0
  InExpr = EverywhereInExpr P Q

  abbrev InExprs : L.Exprs → Type 0
  InExprs = EverywhereInExprs P Q

  abbrev InTest : L.Test → Type 0
  InTest = EverywhereInTest P Q

  abbrev InCond : L.Cond → Type 0
  InCond = EverywhereInCond P Q

  abbrev In : L.Command → Type 0
  In = Everywhere P Q

  abbrev InAll : L.Commands → Type 0
  InAll = EverywhereInAll P Q

  -- what is lifted or made from the number n on: numbers rise by at most the assignments, and it holds everywhere where they end below b
  record Lifts {A : Type 0} (I : A → Type 0) (n : ℕ) (x : Lifted A) : Type 0 where
    grows : n ≤ x.next
    count : x.next ≤ n + all_assigns x.before
    before : x.next ≤ b → InAll x.before
    phrase : x.next ≤ b → I x.phrase

  record Makes (n : ℕ) (x : Made) : Type 0 where
    grows : n ≤ x.next
    count : x.next ≤ n + assigns x.command
    holds : x.next ≤ b → In x.command

  pub record AllMakes (n : ℕ) (x : AllMade) : Type 0 where
    pub grows : n ≤ x.next
    pub count : x.next ≤ n + all_assigns x.commands
    pub holds : x.next ≤ b → InAll x.commands

  flag_in : Q (temp.Fresh 0)
  flag_in = each_fresh 0 flag_below

  both_in : (cs ds : L.Commands) → InAll cs → InAll ds → InAll (both cs ds)
  unfolding definitions
  both_in L.NoCommand ds h k = k
  both_in (L.MoreCommand c cs) ds h k = (h.0, both_in cs ds h.1 k)

  front_in : (cs : L.Commands) (c : L.Command) → InAll cs → In c → In (in_front cs c)
  unfolding definitions
  front_in L.NoCommand c h k = k
  front_in (L.MoreCommand d ds) c h k = (h.0, both_in ds (one c) h.1 (k, tt))

  guard_in : (v : Bool) (c : L.Command) → In c → In (guard v c)
  unfolding definitions
  guard_in true c h = (((flag_in, tt), tt), h, tt)
  guard_in false c h = h

  turn_in : (v : Bool) (cs : L.Commands) (c : L.Command) (more : L.Commands) → InAll cs → In c → InAll more → InAll (in_turn v cs c more)
  unfolding definitions
  turn_in true cs c more h k m = (guard_in true (in_front cs c) (front_in cs c h k), m)
  turn_in false cs c more h k m = both_in cs (L.MoreCommand c more) h (k, m)

  plain_lifts : {A : Type 0} (I : A → Type 0) (a : A) (n : ℕ) → I a → Lifts I n (plain a n)
  unfolding definitions
  plain_lifts I a n h = record { grows = omega arith; count = omega arith; before = λ l. tt; phrase = λ l. h }

  mapped_lifts : {A B : Type 0} (I : A → Type 0) (J : B → Type 0) (f : A → B) → ((a : A) → I a → J (f a)) → (n : ℕ) (x : Lifted A) → Lifts I n x → Lifts J n (mapped f x)
  unfolding definitions
  mapped_lifts I J f g n x h = record { grows = h.grows; count = h.count; before = h.before; phrase = λ l. g x.phrase (h.phrase l) }

  combined_lifts : {A B C : Type 0} (I : A → Type 0) (J : B → Type 0) (H : C → Type 0) (f : A → B → C) → ((a : A) (c : B) → I a → J c → H (f a c)) →
      (n : ℕ) (x : Lifted A) (y : ℕ → Lifted B) → Lifts I n x → ((m : ℕ) → Lifts J m (y m)) → Lifts H n (combined f x y)
  unfolding definitions
  combined_lifts I J H f g n x y h k =
      let z = k x.next in
      let up = z.grows in let here = h.grows in let zc = z.count in let hc = h.count in
      let sum = both_count x.before (y x.next).before in
      record {
        grows = omega (arith, up, here);
        count = omega (arith, zc, hc, sum);
        before = λ l. both_in x.before (y x.next).before (h.before (omega (arith, l, up))) (z.before l);
        phrase = λ l. g x.phrase (y x.next).phrase (h.phrase (omega (arith, l, up))) (z.phrase l);
      }

  placed_makes : {A : Type 0} (I : A → Type 0) (f : A → L.Command) → ((a : A) → I a → In (f a)) → (n : ℕ) (x : Lifted A) → Lifts I n x → Makes n (placed x f)
  unfolding definitions
  placed_makes I f g n x h =
      let c = h.count in let sum = front_count x.before (f x.phrase) in
      record { grows = h.grows; count = omega (arith, c, sum); holds = λ l. front_in x.before (f x.phrase) (h.before l) (g x.phrase (h.phrase l)) }

  one_makes : (n : ℕ) (x : AllMade) → AllMakes n x → Makes n (as_one x)
  unfolding definitions
  one_makes n x h = record { grows = h.grows; count = h.count; holds = h.holds }

  -- ---- the slots of a relation
  module _ (R : Slot → Type 0) (used : (slot : Slot) → R slot → Whole slot.used) where
    -- loops, whose bodies come behind the number lo
    visits_make : (lo : ℕ) (test : Slot → ℕ → Lifted L.Cond) (body : Slot → ℕ → Made) → ((slot : Slot) (m : ℕ) → R slot → Lifts InCond m (test slot m)) →
        ((slot : Slot) (m : ℕ) → lo ≤ m → R slot → Makes m (body slot m)) → (all : List Slot) → Each R all → (v later : Bool) (n : ℕ) → lo ≤ n →
        AllMakes n (visits v later test body all n)
    unfolding definitions
    visits_make lo test body h k [] r v later n at = record { grows = omega arith; count = omega arith; holds = λ l. tt }
    visits_make lo test body h k (slot ∷ more) r v later n at =
        let y = test slot n in
        let t = h slot n r.0 in
        let tg = t.grows in let tc = t.count in
        let m = k slot y.next (omega (arith, at, tg)) r.0 in
        let mg = m.grows in let mc = m.count in
        let c = body slot y.next in
        let o = visits_make lo test body h k more r.1 later later c.next (omega (arith, at, tg, mg)) in
        let og = o.grows in let oc = o.count in
        let others = (visits later later test body more c.next).commands in
        let sum = turn_count v y.before (L.If (L.MoreTest (equal (read slot.used) (pos 1)) y.phrase) c.command L.Skip) others in
        record {
          grows = omega (arith, tg, mg, og);
          count = omega (arith, tc, mc, oc, sum);
          holds = λ l. turn_in v y.before _ others (t.before (omega (arith, l, og, mg)))
              (((used slot r.0, tt), t.phrase (omega (arith, l, og, mg))), m.holds (omega (arith, l, og)), tt) (o.holds l);
        }

    counted_lifts : (test : Slot → ℕ → Lifted L.Cond) (term : Slot → L.Expr) → ((slot : Slot) (m : ℕ) → R slot → Lifts InCond m (test slot m)) →
        ((slot : Slot) → R slot → InExpr (term slot)) → (all : List Slot) → Each R all → (n : ℕ) → Lifts InExpr n (counted test term all n)
    unfolding definitions
    counted_lifts test term h k all r n =
        let body : Slot → ℕ → Made = λ slot m. record { command = L.Assign (temp.Fresh n) (L.Sum (L.MoreExpr (fresh n) (L.MoreExpr (term slot) L.NoExpr))); next = m } in
        let adds : (slot : Slot) (m : ℕ) → suc n ≤ m → R slot → Makes m (body slot m) = λ slot m l i. record { grows = omega arith; count = omega arith; holds = λ u. let here : Q (temp.Fresh n) = each_fresh n (omega (arith, l, u)) in (here, (here, (k slot i, tt))) } in
        let o = visits_make (suc n) test body h adds all r false false (suc n) (omega arith) in
        let og = o.grows in let oc = o.count in
        record { grows = omega (arith, og); count = omega (arith, oc); before = λ l. ((each_fresh n (omega (arith, og, l)), tt), o.holds l); phrase = λ l. each_fresh n (omega (arith, og, l)) }

    module _ (f : Spot) (each_cell : (slot : Slot) → R slot → Whole (cell slot f)) where
      read_chain_in : (e : L.Expr) (t : ℕ) (all : List Slot) → Each R all → InExpr e → t < b → In (read_chain f e t all)
      unfolding definitions
      read_chain_in e t [] r h l = (each_fresh t l, tt)
      read_chain_in e t (slot ∷ more) r h l = (((h, tt), tt), (each_fresh t l, each_cell slot r.0), read_chain_in e t more r.1 h l)

      read_slot_in : (o : Option Slot) → ForSome R o → InExpr (read_slot f o)
      unfolding definitions
      read_slot_in (Some slot) r = each_cell slot r
      read_slot_in None r = tt

      indexed_lifts : (o : Option ℤ) (all : List Slot) → Each R all → (n : ℕ) (x : Lifted L.Expr) → Lifts InExpr n x →
          ((v : ℤ) → o ≡ Some v → x.next ≡ n) → Lifts InExpr n (indexed_by o all f x)
      unfolding definitions
      indexed_lifts (Some v) all r n x h lit =
          let e = lit v refl in
          record { grows = h.grows; count = omega (arith, e); before = λ l. tt; phrase = λ l. read_slot_in (slot_at v all) (each_first R _ all r) }
      indexed_lifts None all r n x h lit =
          let g = h.grows in let c = h.count in
          let sum = both_count x.before (one (read_chain f x.phrase x.next all)) in
          let some = chain_count f x.phrase x.next all in
          record {
            grows = omega (arith, g);
            count = omega (arith, c, sum, some);
            before = λ l. both_in x.before _ (h.before (omega (arith, l))) (read_chain_in x.phrase x.next all r (h.phrase (omega (arith, l))) (omega (arith, l)), tt);
            phrase = λ l. each_fresh x.next (omega (arith, l));
          }

      write_chain_in : (i e : L.Expr) (all : List Slot) → Each R all → InExpr i → InExpr e → In (write_chain f i e all)
      unfolding definitions
      write_chain_in i e [] r h k = tt
      write_chain_in i e (slot ∷ more) r h k = (((h, tt), tt), (each_cell slot r.0, k), write_chain_in i e more r.1 h k)

  guarded_in : (f : Spot) (x : ℕ) (e : L.Expr) → Whole x → InExpr e → In (guarded f x e)
  unfolding definitions
  guarded_in f x e w h = (((tt, h), ((h, tt), tt)), (w, h), tt)

  write_makes : (f : Spot) (x n : ℕ) (e : Lifted L.Expr) → Whole x → Lifts InExpr n e → Makes n (write_to f x e)
  unfolding definitions
  write_makes f x n e w h = placed_makes InExpr (guarded f x) (λ a k. guarded_in f x a w k) n e h

  module _ (R : Slot → Type 0) (used : (slot : Slot) → R slot → Whole slot.used) (f : Spot) (each_cell : (slot : Slot) → R slot → Whole (cell slot f)) where
    write_at_makes : (o : Option Slot) → ForSome R o → (n : ℕ) (y : ℕ → Lifted L.Expr) → ((m : ℕ) → Lifts InExpr m (y m)) → Makes n (write_at o f n y)
    unfolding definitions
    write_at_makes None r n y h = record { grows = omega arith; count = omega arith; holds = λ l. tt }
    write_at_makes (Some slot) r n y h = write_makes f (cell slot f) n (y n) (each_cell slot r) (h n)

    write_by_makes : (o : Option ℤ) (all : List Slot) → Each R all → (n : ℕ) (x : Lifted L.Expr) (y : ℕ → Lifted L.Expr) → Lifts InExpr n x →
        ((m : ℕ) → Lifts InExpr m (y m)) → ((v : ℤ) → o ≡ Some v → x.next ≡ n) → Makes n (write_by o all f x y)
    unfolding definitions
    write_by_makes (Some v) all r n x y h k lit =
        let e = lit v refl in
        let m = write_at_makes (slot_at v all) (each_first R _ all r) x.next y k in
        let mg = m.grows in let mc = m.count in
        record { grows = omega (arith, e, mg); count = omega (arith, e, mc); holds = m.holds }
    write_by_makes None all r n x y h k lit =
        placed_makes (λ (p : Pair L.Expr). InExpr p.index × InExpr p.value) (λ p. L.If (form.within f p.value L.NoTest) (write_chain f p.index p.value all) L.Skip)
        (λ p l. (((tt, l.1), ((l.1, tt), tt)), write_chain_in R used f each_cell p.index p.value all r l.0 l.1, tt)) n (combined pair x y)
        (combined_lifts InExpr InExpr (λ (p : Pair L.Expr). InExpr p.index × InExpr p.value) pair (λ a c i j. (i, j)) n x y h k)

  -- ---- the fields of a new row
  module _ (R : Slot → Type 0) where
    abbrev FieldIn : Spot → Type 0
    FieldIn f = (slot : Slot) → R slot → Whole (cell slot f)

    abbrev TargetIn : Target → Type 0
    TargetIn t = FieldIn t.field × Q (temp.Fresh t.temp)

    targets_in : (ts : List Target) → Each TargetIn ts → InCond (all_within ts)
    unfolding definitions
    targets_in [] h = tt
    targets_in (t ∷ ts) h = ((tt, h.0.1), ((h.0.1, tt), targets_in ts h.1))

    field_writes_in : (slot : Slot) → R slot → (ts : List Target) (cs : L.Commands) → Each TargetIn ts → InAll cs → InAll (field_writes slot ts cs)
    unfolding definitions
    field_writes_in slot r [] cs h k = k
    field_writes_in slot r (t ∷ ts) cs h k = ((h.0.0 slot r, h.0.1), field_writes_in slot r ts cs h.1 k)

    fill_chain_in : ((slot : Slot) → R slot → Whole slot.used) → (ts : List Target) (t : ℕ) (all : List Slot) → Each TargetIn ts → Q (temp.Named t) → Each R all → In (fill_chain ts t all)
    unfolding definitions
    fill_chain_in used ts t [] h q r = (q, tt)
    fill_chain_in used ts t (slot ∷ more) h q r =
        let u = used slot r.0 in
        (((u, tt), tt), field_writes_in slot r.0 ts _ h ((u, tt), ((q, tt), tt)), fill_chain_in used ts t more h q r.1)

    stored_lifts : (f : Spot) → FieldIn f → (n : ℕ) (x : Lifted L.Expr) → Lifts InExpr n x → Lifts TargetIn n (stored f x)
    unfolding definitions
    stored_lifts f i n x h =
        let g = h.grows in let c = h.count in
        let sum = both_count x.before (one (L.Assign (temp.Fresh x.next) x.phrase)) in
        record {
          grows = omega (arith, g);
          count = omega (arith, c, sum);
          before = λ l. both_in x.before _ (h.before (omega (arith, l))) ((each_fresh x.next (omega (arith, l)), h.phrase (omega (arith, l))), tt);
          phrase = λ l. (i, each_fresh x.next (omega (arith, l)));
        }

  -- ---- from the source on
  module _
      (K : List Row → Context → Type 0)
      (C : Occurrence → Type 0)
      (N : Ident → Type 0)
      (R : Context → ℕ → Slot → Type 0)
      (gives : Gives P Q K C N R)
    where
      name_in : (o : Option ℤ) (t : Ident) → N t → InExpr (name_of o t.name)
      unfolding definitions
      name_in (Some v) t h = tt
      name_in None t h = gives.named t h

      mutual
        unfolding definitions syntax_definitions

        lift_in : (rows : List Row) (x : Context) (e : s.Expr) (n : ℕ) → K rows x → Each C (in_expr rows e) → EachInExpr N e → Lifts InExpr n (lift x e n)
        lift_in rows x (s.Literal v) n h c k = plain_lifts InExpr (L.Literal v) n tt
        lift_in rows x (s.Name t) n h c k = plain_lifts InExpr (name_of (x.arguments t.name) t.name) n (name_in (x.arguments t.name) t k)
        lift_in rows x (s.Read o) n h c k = plain_lifts InExpr (read (object x o.name).place) n (gives.one_object rows x o h c.0)
        lift_in rows x (s.Sum es) n h c k = mapped_lifts InExprs InExpr L.Sum (λ a i. i) n (lift_all x es n) (lift_all_in rows x es n h c k)
        lift_in rows x (s.Product es) n h c k = mapped_lifts InExprs InExpr L.Product (λ a i. i) n (lift_all x es n) (lift_all_in rows x es n h c k)
        lift_in rows x (s.Neg e) n h c k = mapped_lifts InExpr InExpr L.Neg (λ a i. i) n (lift x e n) (lift_in rows x e n h c k)
        lift_in rows x (s.Field q e f) n h c k =
            indexed_lifts (R x q.name) (gives.used x q.name) (spot (fields x q.name) f.name) (λ slot r. (gives.field rows rows x q f h c.0 c.1.0 slot r).0)
            (literal_of (lift x e n).phrase) (slots x q.name) (gives.all_slots rows x q.name h) n (lift x e n) (lift_in rows x e n h c.1.1 k.1) (literal_next x e n)
        lift_in rows x (s.Row r f) n h c k = plain_lifts InExpr (read (field_cell (x.rows r.name) f.name)) n (gives.row_field rows x r f h c.0)
        lift_in rows x (s.Count r q t) n h c k =
            counted_lifts (R x q.name) (gives.used x q.name) (λ slot. lift_cond (bind x r.name slot) t) (λ slot. L.Literal (pos 1))
            (λ slot m i. lift_cond_in (within r q rows) (bind x r.name slot) t m (gives.bound rows (within r q rows) x r q slot h c.1.0 i) c.1.1 k.2)
            (λ slot i. tt) (slots x q.name) (gives.all_slots rows x q.name h) n
        lift_in rows x (s.Total r f q t) n h c k =
            counted_lifts (R x q.name) (gives.used x q.name) (λ slot. lift_cond (bind x r.name slot) t) (λ slot. read (field_cell slot f.name))
            (λ slot m i. lift_cond_in (within r q rows) (bind x r.name slot) t m (gives.bound rows (within r q rows) x r q slot h c.1.0 i) c.1.1.1 k.3)
            (λ slot i. (gives.field rows (within r q rows) x q f h c.1.0 c.1.1.0 slot i).1) (slots x q.name) (gives.all_slots rows x q.name h) n

        lift_all_in : (rows : List Row) (x : Context) (es : s.Exprs) (n : ℕ) → K rows x → Each C (in_exprs rows es) → EachInExprs N es → Lifts InExprs n (lift_all x es n)
        lift_all_in rows x s.NoExpr n h c k = plain_lifts InExprs L.NoExpr n tt
        lift_all_in rows x (s.MoreExpr e es) n h c k =
            combined_lifts InExpr InExprs InExprs L.MoreExpr (λ a d i j. (i, j)) n (lift x e n) (lift_all x es)
            (lift_in rows x e n h (each_before C (in_expr rows e) (in_exprs rows es) c) k.0)
            (λ m. lift_all_in rows x es m h (each_behind C (in_expr rows e) (in_exprs rows es) c) k.1)

        lift_test_in : (rows : List Row) (x : Context) (t : s.Test) (n : ℕ) → K rows x → Each C (in_test rows t) → EachInTest N t → Lifts InTest n (lift_test x t n)
        lift_test_in rows x s.True n h c k = plain_lifts InTest L.True n tt
        lift_test_in rows x (s.Not t) n h c k = mapped_lifts InCond InTest L.Not (λ a i. i) n (lift_cond x t n) (lift_cond_in rows x t n h c k)
        lift_test_in rows x (s.Comparison op d e) n h c k =
            combined_lifts InExpr InExpr InTest (L.Comparison op) (λ a f i j. (i, j)) n (lift x d n) (lift x e)
            (lift_in rows x d n h (each_before C (in_expr rows d) (in_expr rows e) c) k.0)
            (λ m. lift_in rows x e m h (each_behind C (in_expr rows d) (in_expr rows e) c) k.1)

        lift_cond_in : (rows : List Row) (x : Context) (t : s.Cond) (n : ℕ) → K rows x → Each C (in_cond rows t) → EachInCond N t → Lifts InCond n (lift_cond x t n)
        lift_cond_in rows x s.NoTest n h c k = plain_lifts InCond L.NoTest n tt
        lift_cond_in rows x (s.MoreTest t ts) n h c k =
            combined_lifts InTest InCond InCond L.MoreTest (λ a d i j. (i, j)) n (lift_test x t n) (lift_cond x ts)
            (lift_test_in rows x t n h (each_before C (in_test rows t) (in_cond rows ts) c) k.0)
            (λ m. lift_cond_in rows x ts m h (each_behind C (in_test rows t) (in_cond rows ts) c) k.1)

      values_in : (rows : List Row) (x : Context) (q : ℕ) (fs : List s.FieldValue) (n : ℕ) → K rows x →
          Each (λ (f : s.FieldValue). FieldIn (R x q) (spot (fields x q) f.field.name)) fs → Each C (in_fields rows fs) → EachInFields N fs →
          Lifts (Each (TargetIn (R x q))) n (lift_values x (fields x q) fs n)
      unfolding definitions syntax_definitions
      values_in rows x q [] n h named c k = plain_lifts (Each (TargetIn (R x q))) [] n tt
      values_in rows x q (f ∷ fs) n h named c k =
          let to = spot (fields x q) f.field.name in
          combined_lifts (TargetIn (R x q)) (Each (TargetIn (R x q))) (Each (TargetIn (R x q))) ◌∷◌ (λ a d i j. (i, j)) n (stored to (lift x f.value n)) (lift_values x (fields x q) fs)
          (stored_lifts (R x q) to named.0 n (lift x f.value n) (lift_in rows x f.value n h (each_before C (in_expr rows f.value) (in_fields rows fs) c) k.1))
          (λ m. values_in rows x q fs m h named.1 (each_behind C (in_expr rows f.value) (in_fields rows fs) c) k.2)

      loop_makes : (rows : List Row) (x : Context) (r q : Ident) (t : s.Cond) (ends : Bool) (body : Slot → ℕ → Made) (n : ℕ) → K rows x → C (at rows (TakesRelation q)) →
          Each C (in_cond (within r q rows) t) → EachInCond N t → ((slot : Slot) (m : ℕ) → R x q.name slot → Makes m (body slot m)) → Makes n (loop x r.name q.name t ends body n)
      unfolding definitions
      loop_makes rows x r q t ends body n h is c k makes =
          one_makes n _ (visits_make (R x q.name) (gives.used x q.name) 0 (λ slot. lift_cond (bind x r.name slot) t) body
          (λ slot m i. lift_cond_in (within r q rows) (bind x r.name slot) t m (gives.bound rows rows x r q slot h is i) c k) (λ slot m l i. makes slot m i)
          (slots x q.name) (gives.all_slots rows x q.name h) false ends n (omega arith))

      mutual
        unfolding definitions syntax_definitions

        form_in : (rows : List Row) (x : Context) (c : s.Command) (n : ℕ) → K rows x → Each C (in_command rows c) → EachInCommand N c → Makes n (form.form x c n)
        form_in rows x s.Skip n h c k = record { grows = omega arith; count = omega arith; holds = λ l. tt }
        form_in rows x (s.Assign t e) n h c k =
            placed_makes InExpr (L.Assign (temp.Named t.name)) (λ a i. (gives.named t k.0, i)) n (lift x e n)
            (lift_in rows x e n h (each_before C (in_expr rows e) (at rows (Assigns t) ∷ []) c) k.1)
        form_in rows x (s.Write o e) n h c k =
            write_makes (object x o.name) (object x o.name).place n (lift x e n) (gives.one_object rows x o h c.0) (lift_in rows x e n h c.1 k.1)
        form_in rows x (s.Print e) n h c k = placed_makes InExpr L.Print (λ a i. i) n (lift x e n) (lift_in rows x e n h c k)
        form_in rows x (s.If t d e) n h c k =
            let y = lift_cond x t n in
            let front = each_before C (in_cond rows t ++ in_command rows d) (in_command rows e) c in
            let tested = lift_cond_in rows x t n h (each_before C (in_cond rows t) (in_command rows d) front) k.0 in
            let first = form_in rows x d y.next h (each_behind C (in_cond rows t) (in_command rows d) front) k.1 in
            let second = form_in rows x e (form.form x d y.next).next h (each_behind C (in_cond rows t ++ in_command rows d) (in_command rows e) c) k.2 in
            let tg = tested.grows in let fg = first.grows in let sg = second.grows in
            let tc = tested.count in let fc = first.count in let sc = second.count in
            let sum = front_count y.before (L.If y.phrase (form.form x d y.next).command (form.form x e (form.form x d y.next).next).command) in
            record {
              grows = omega (arith, tg, fg, sg);
              count = omega (arith, tc, fc, sc, sum);
              holds = λ l. front_in y.before _ (tested.before (omega (arith, l, fg, sg)))
                  (tested.phrase (omega (arith, l, fg, sg)), first.holds (omega (arith, l, sg)), second.holds l);
            }
        form_in rows x (s.Block cs) n h c k = one_makes n (forms x false cs n) (forms_in rows x false cs n h c k)
        form_in rows x (s.SetField q i f e) n h c k =
            write_by_makes (R x q.name) (gives.used x q.name) (spot (fields x q.name) f.name) (λ slot r. (gives.field rows rows x q f h c.0 c.1.0 slot r).0)
            (literal_of (lift x i n).phrase) (slots x q.name) (gives.all_slots rows x q.name h) n (lift x i n) (lift x e)
            (lift_in rows x i n h (each_before C (in_expr rows i) (in_expr rows e) c.1.1) k.1)
            (λ m. lift_in rows x e m h (each_behind C (in_expr rows i) (in_expr rows e) c.1.1) k.3) (literal_next x i n)
        form_in rows x (s.SetRow r f e) n h c k =
            write_makes (spot (x.rows r.name).fields f.name) (field_cell (x.rows r.name) f.name) n (lift x e n) (gives.row_field rows x r f h c.0)
            (lift_in rows x e n h c.1 k.2)
        form_in rows x (s.Foreach r q t cs) n h c k =
            let inner = within r q rows in
            loop_makes rows x r q t (hold_abort cs) (λ slot m. as_one (forms (bind x r.name slot) false cs m)) n h c.1.0
            (each_before C (in_cond inner t) (in_commands inner cs) c.1.1) k.2
            (λ slot m i. one_makes m _ (forms_in inner (bind x r.name slot) false cs m (gives.bound rows rows x r q slot h c.1.0 i)
            (each_behind C (in_cond inner t) (in_commands inner cs) c.1.1) k.3))
        form_in rows x (s.Insert q fs t) n h c k =
            let y = lift_values x (fields x q.name) fs n in
            let named = gives.filled rows x q fs h c.0 c.1.0 in
            let v = values_in rows x q.name fs n h named (each_before C (in_fields rows fs) (at rows (Assigns t) ∷ []) c.1.1) k.1 in
            let q_in = gives.named t k.2 in
            let vc = v.count in
            let sum = both_count y.before (one (L.If (all_within y.phrase) (fill_chain y.phrase t.name (slots x q.name)) (L.Assign (temp.Named t.name) (L.Literal (pos 0))))) in
            record {
              grows = v.grows;
              count = omega (arith, vc, sum);
              holds = λ l. both_in y.before _ (v.before l) (
                (
                  targets_in (R x q.name) y.phrase (v.phrase l),
                  fill_chain_in (R x q.name) (gives.used x q.name) y.phrase t.name (slots x q.name) (v.phrase l) q_in (gives.all_slots rows x q.name h),
                  (q_in, tt),
                ),
                tt,
              );
            }
        form_in rows x (s.Delete r q t) n h c k =
            loop_makes rows x r q t false clear n h c.1.0 c.1.1 k.2 (λ slot m i. record { grows = omega arith; count = omega arith; holds = λ l. (gives.used x q.name slot i, tt) })
        form_in rows x (s.Update r q t f e) n h c k =
            let inner = within r q rows in
            loop_makes rows x r q t false (λ slot m. write_field slot f.name (lift (bind x r.name slot) e m)) n h c.1.0
            (each_before C (in_cond inner t) (in_expr inner e) c.1.1.1) k.2
            (λ slot m i. write_makes (spot slot.fields f.name) (field_cell slot f.name) m (lift (bind x r.name slot) e m)
            (gives.field rows rows x q f h c.1.0 c.1.1.0 slot i).1
            (lift_in inner (bind x r.name slot) e m (gives.bound rows rows x r q slot h c.1.0 i) (each_behind C (in_cond inner t) (in_expr inner e) c.1.1.1) k.4))
        form_in rows x s.Abort n h c k = record { grows = omega arith; count = omega arith; holds = λ l. (flag_in, tt) }

        pub forms_in : (rows : List Row) (x : Context) (v : Bool) (cs : s.Commands) (n : ℕ) → K rows x → Each C (in_commands rows cs) → EachInCommands N cs → AllMakes n (forms x v cs n)
        forms_in rows x v s.NoCommand n h c k = record { grows = omega arith; count = omega arith; holds = λ l. tt }
        forms_in rows x v (s.MoreCommand d cs) n h c k =
            let made = form.form x d n in
            let first = form_in rows x d n h (each_before C (in_command rows d) (in_commands rows cs) c) k.0 in
            let others = forms_in rows x (v || holds_abort d) cs made.next h (each_behind C (in_command rows d) (in_commands rows cs) c) k.1 in
            let fg = first.grows in let og = others.grows in let fc = first.count in let oc = others.count in
            let sum = guard_count v made.command in
            record {
              grows = omega (arith, fg, og);
              count = omega (arith, fc, oc, sum);
              holds = λ l. (guard_in v made.command (first.holds (omega (arith, l, og))), others.holds l);
            }
