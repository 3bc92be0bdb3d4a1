-- What holds of every number of a lifting holds of those of the source.
use Rattle.std.proofs.Common.{◌≡◌, ℕ, suc, ◌<◌, Bool, true, false, cond, ◌&&◌, List, [], ◌∷◌, ℤ, pos, ◌+ℤ◌, ◌*ℤ◌, neg_ℤ, Option, Some, None, refl, sym, ap, ap₂, ◌∙◌, subst, arith}
use Rattle.std.proofs.lemmas.Int.{ints}
use Rattle.std.proofs.lemmas.Bool.{and_from, false≢true}
use Rattle.homeo_syntax.specs.declared.low.Temp.TheVariants as temp
use Rattle.homeo_syntax.specs.Low as L
use Rattle.homeo_syntax.specs.Source.{Expr, Exprs, Literal, Name, Read, Sum, Product, Neg, Field, Row, Count, Total, NoExpr, MoreExpr, Test, Cond, True, Not, Comparison, NoTest, MoreTest}
use Rattle.homeo_meaning.specs.Key.{definitions}
use Rattle.homeo_meaning.specs.LowMeaning as M
use Rattle.homeo_meaning.specs.Context.{Spot, Slot, Context, spot, field_cell, slots, fields, bind, slot_at}
use Rattle.homeo_meaning.specs.Meaning.{State, Run, done, is_used, value, sum_value, product_value, passes, holds}
use Rattle.homeo_meaning.specs.LForm.{Lifted, Made, both, one, in_front, guard, in_turn, read, visits, counted, read_chain, read_slot, literal_of, indexed_by, name_of, lift, lift_all, lift_test, lift_cond}
use Rattle.homeo_meaning.specs.LowComputed as low
use Rattle.homeo_meaning.specs.Computed.{has_some, has_none, is_given, Unless, OnSlots, CanAdd, CanVisit, CanValue, CanSum, CanProduct, CanPass, CanHold}
use Rattle.homeo_lform.proofs.Lifts.{seen, put_here, at_fresh, quiet, Alike, Lifts, alike_self, alike_then}
use Rattle.homeo_lform.proofs.Loops.{loop_test, tested, add_term, adds}
use Rattle.homeo_lform.specs.Fresh.{flags, TakesFrom}
use Rattle.homeo_lform.proofs.Fresh.{Allows, turn_run}
use Rattle.homeo_lform.proofs.Ends.{Told, told_low, told, Ready, ready_alike, goes_on, slot_told}
use Rattle.homeo_lform.proofs.Values.{lifts, lifts_sum, lifts_product, lifts_test, lifts_cond, products, sums}

-- the state after commands
abbrev pub after : L.Commands → M.State → M.State
unfolding definitions
after cs s = (M.exec_all cs s).state

pub after_both : (cs ds : L.Commands) (s : M.State) → after (both cs ds) s ≡ after ds (after cs s)
unfolding definitions
after_both L.NoCommand ds s = refl
after_both (L.MoreCommand c cs) ds s = after_both cs ds (M.exec c s).state

pub alike_after : {A V : Type 0} (n : ℕ) (s : M.State) (x : Lifted A) (at : A → M.State → V) (v : State → V) → Lifts n s x at v → Alike n s (after x.before s)
unfolding definitions
alike_after n s x at v k = subst (Alike n s) (sym (ap (λ (r : M.Run). r.state) k.runs)) k.alike

pub means_after : {A V : Type 0} (n : ℕ) (s : M.State) (x : Lifted A) (at : A → M.State → V) (v : State → V) → Lifts n s x at v → (u : M.State) → Alike x.next (after x.before s) u → at x.phrase u ≡ v (seen s)
unfolding definitions
means_after n s x at v k u a = k.means u (subst (λ z. Alike x.next z u) (ap (λ (r : M.Run). r.state) k.runs) a)

pub quiet_after : {A V : Type 0} (n : ℕ) (s : M.State) (x : Lifted A) (at : A → M.State → V) (v : State → V) → Lifts n s x at v → M.exec_all x.before s ≡ quiet (after x.before s)
unfolding definitions
quiet_after n s x at v k = k.runs ∙ ap quiet (sym (ap (λ (r : M.Run). r.state) k.runs))

-- what counts where the call goes on
pub unless_on : (v : Bool) (T : Type 0) → (v ≡ false → T) → Unless v T
unless_on true T h = tt
unless_on false T h = h refl

pub literal_is_none : (k : ℤ) → None ≡ Some k → ⊥
unfolding definitions
literal_is_none k e = grind arith

-- ---- an index that is lifted to a literal
pub literal_value : (p : L.Expr) (k : ℤ) (u : M.State) → literal_of p ≡ Some k → M.value p u ≡ k
unfolding definitions
literal_value (L.Literal j) k u e = ap (λ o. elim o as (λ x. ℤ) [ None ↦ j | Some i ↦ i ]) e
literal_value p k u e = absurd (literal_is_none k e)

record Absent (o : Option ℤ) (all : List Slot) : Type 0 where
  index : ℤ
  is : o ≡ Some index
  none : has_none (slot_at index all) ≡ true

slot_absent : (o : Option Slot) (f : Spot) (k : ℤ) → literal_of (read_slot f o) ≡ Some k → has_none o ≡ true
unfolding definitions
slot_absent None f k e = refl
slot_absent (Some slot) f k e = absurd (literal_is_none k e)

indexed_literal : (o : Option ℤ) (all : List Slot) (f : Spot) (x : Lifted L.Expr) (k : ℤ) → literal_of (indexed_by o all f x).phrase ≡ Some k → Absent o all
unfolding definitions
indexed_literal (Some j) all f x k e = record { index = j; is = refl; none = slot_absent (slot_at j all) f k e }
indexed_literal None all f x k e = absurd (literal_is_none k e)

name_given : (o : Option ℤ) (t : ℕ) (k : ℤ) → literal_of (name_of o t) ≡ Some k → has_some o ≡ true
unfolding definitions
name_given (Some v) t k e = refl
name_given None t k e = absurd (literal_is_none k e)

pub literal_given : (w : Context) (e : Expr) (n : ℕ) (s : M.State) (k : ℤ) → literal_of (lift w e n).phrase ≡ Some k → is_given w e (seen s) ≡ true
unfolding definitions
literal_given w (Literal v) n s k e = refl
literal_given w (Name x) n s k e = name_given (w.arguments x.name) x.name k e
literal_given w (Read x) n s k e = absurd (literal_is_none k e)
literal_given w (Sum es) n s k e = absurd (literal_is_none k e)
literal_given w (Product es) n s k e = absurd (literal_is_none k e)
literal_given w (Neg a) n s k e = absurd (literal_is_none k e)
literal_given w (Field r a f) n s k e =
    let x = lift w a n in
    let j = indexed_literal (literal_of x.phrase) (slots w r.name) (spot (fields w r.name) f.name) x k e in
    let z = after x.before s in
    let same : value w a (seen s) ≡ j.index = sym (means_after n s x M.value (value w a) (lifts w a n s) z (alike_self x.next z)) ∙ literal_value x.phrase j.index z j.is in
    and_from (is_given w a (seen s)) _ (literal_given w a n s j.index j.is) (ap (λ v. has_none (slot_at v (slots w r.name))) same ∙ j.none)
literal_given w (Row r f) n s k e = absurd (literal_is_none k e)
literal_given w (Count r q b) n s k e = absurd (literal_is_none k e)
literal_given w (Total r f q b) n s k e = absurd (literal_is_none k e)

module _ (R P : ℤ → Type 0) where
  pub split_all : (cs ds : L.Commands) (s : M.State) → low.CanRunAll R P (both cs ds) s → low.CanRunAll R P cs s × low.CanRunAll R P ds (after cs s)
  unfolding definitions
  split_all L.NoCommand ds s h = (tt, h)
  split_all (L.MoreCommand c cs) ds s h = let k = split_all cs ds (M.exec c s).state h.1 in ((h.0, k.0), k.1)

  pub front_can : (cs : L.Commands) (c : L.Command) (s : M.State) → low.CanRun R P (in_front cs c) s → low.CanRunAll R P cs s × low.CanRun R P c (after cs s)
  unfolding definitions
  front_can L.NoCommand c s h = (tt, h)
  front_can (L.MoreCommand b bs) c s h = let k = split_all (L.MoreCommand b bs) (one c) s h in (k.0, k.1.0)

  pub guard_can : (g : Bool) (c : L.Command) (s : M.State) → low.CanRun R P (guard g c) s → low.CanRun R P c s
  unfolding definitions
  guard_can true c s h = h.1
  guard_can false c s h = h

  -- the commands of a slot, guarded or not
  turn_can : (g : Bool) (before : L.Commands) (c : L.Command) (more : L.Commands) (s a : M.State) → M.exec_all before s ≡ quiet a → low.CanRunAll R P (in_turn g before c more) s
      → low.CanRunAll R P before s × low.CanRun R P c (after before s) × low.CanRunAll R P more (turn_run g before c s a).state
  unfolding definitions
  turn_can true before c more s a e h = let k = front_can before c s (guard_can true (in_front before c) s h.0) in (k.0, k.1, h.1)
  turn_can false before c more s a e h =
      let k = split_all before (L.MoreCommand c more) s h in
      (k.0, k.1.0, subst (λ z. low.CanRunAll R P more (M.exec c z).state) (ap (λ (r : M.Run). r.state) e) k.1.1)

  -- from the numbers of a lifting and of its phrase to those of the source
  abbrev pub Conveys : {A : Type 0} → ℕ → M.State → Lifted A → (A → M.State → Type 0) → (State → Type 0) → Type 0
  Conveys n s x B N = low.CanRunAll R P x.before s → (u : M.State) → Alike x.next (after x.before s) u → B x.phrase u → N (seen s)

  -- both parts of two phrases that were lifted one after the other
  pub halves : {A B V W : Type 0} (at : A → M.State → V) (at' : B → M.State → W) (v : State → V) (v' : State → W) (K : A → M.State → Type 0) (K' : B → M.State → Type 0) (N N' : State → Type 0) (n : ℕ) (s : M.State) (x : Lifted A) (y : ℕ → Lifted B) → Lifts n s x at v → ((m : ℕ) (a : M.State) → Lifts m a (y m) at' v') → Conveys n s x K N → ((m : ℕ) (a : M.State) → Conveys m a (y m) K' N') → low.CanRunAll R P (both x.before (y x.next).before) s → (u : M.State) → Alike (y x.next).next (after (both x.before (y x.next).before) s) u → (K x.phrase u → N (seen s)) × (K' (y x.next).phrase u → N' (seen s)) × (at x.phrase u ≡ v (seen s))
  unfolding definitions
  halves at at' v v' K K' N N' n s x y k l f g run u a =
      let b = y x.next in
      let runs = split_all x.before b.before s run in
      let mid = after x.before s in
      let first = alike_after n s x at v k in
      let second = alike_after x.next mid b at' v' (l x.next mid) in
      let last : Alike b.next (after b.before mid) u = subst (λ z. Alike b.next z u) (after_both x.before b.before s) a in
      let here : Alike x.next mid u = alike_then x.next b.next mid (after b.before mid) u (l x.next mid).grows second last in
      (λ h. f runs.0 u here h, λ h. subst N' first.sees (g x.next mid runs.1 u last h), means_after n s x at v k u here)

  -- ---- a field by an index
  chain_index : (f : Spot) (e : L.Expr) (t : ℕ) (all : List Slot) (a : M.State) (T : Type 0) → (low.CanValue R P e a → T) → low.CanRun R P (read_chain f e t all) a → OnSlots all T
  unfolding definitions
  chain_index f e t [] a T k h = tt
  chain_index f e t (slot ∷ more) a T k h = k h.0.0.0

  pub on_slots : (all : List Slot) (T : Type 0) → T → OnSlots all T
  unfolding definitions
  on_slots [] T k = tt
  on_slots (slot ∷ more) T k = k

  -- an index that is lifted to a literal is left out
  unless_given : (b : Bool) (T : Type 0) → b ≡ true → Unless b T
  unless_given true T e = tt
  unless_given false T e = absurd (false≢true e)

  unless_any : (b : Bool) (T : Type 0) → T → Unless b T
  unless_any true T k = tt
  unless_any false T k = k

  pub index_given : (w : Context) (e : Expr) (n : ℕ) (s : M.State) (all : List Slot) (k : ℤ) → literal_of (lift w e n).phrase ≡ Some k → OnSlots all (Unless (is_given w e (seen s)) (CanValue R P w e (seen s)))
  index_given w e n s all k is =
      let given = literal_given w e n s k is in
      on_slots all (Unless (is_given w e (seen s)) (CanValue R P w e (seen s))) (unless_given (is_given w e (seen s)) (CanValue R P w e (seen s)) given)

  pub index_counts : (w : Context) (e : Expr) (s : State) (all : List Slot) → OnSlots all (CanValue R P w e s) → OnSlots all (Unless (is_given w e s) (CanValue R P w e s))
  unfolding definitions
  index_counts w e s [] k = tt
  index_counts w e s (slot ∷ more) k = unless_any (is_given w e s) (CanValue R P w e s) k

  -- ---- what stands there or is read
  name_reads : (o : Option ℤ) (t : ℕ) (u : M.State) → low.CanValue R P (name_of o t) u → R (M.value (name_of o t) u)
  unfolding definitions
  name_reads None t u h = h
  name_reads (Some v) t u h = h

  slot_reads : (o : Option Slot) (f : Spot) (u : M.State) → low.CanValue R P (read_slot f o) u → R (M.value (read_slot f o) u)
  unfolding definitions
  slot_reads None f u h = h
  slot_reads (Some slot) f u h = h

  field_reads : (o : Option ℤ) (all : List Slot) (f : Spot) (x : Lifted L.Expr) (u : M.State) → low.CanValue R P (indexed_by o all f x).phrase u → R (M.value (indexed_by o all f x).phrase u)
  unfolding definitions
  field_reads (Some v) all f x u h = slot_reads (slot_at v all) f u h
  field_reads None all f x u h = h

  -- what is known of a phrase's value is known of the source's
  means_read : (w : Context) (e : Expr) (n : ℕ) (s u : M.State) → Alike (lift w e n).next (after (lift w e n).before s) u → R (M.value (lift w e n).phrase u) → R (value w e (seen s))
  means_read w e n s u a h = subst R (means_after n s (lift w e n) M.value (value w e) (lifts w e n s) u a) h

  -- ---- a count or a sum
  module _ (test : Slot → ℕ → Lifted L.Cond) (p : Slot → State → Bool) (tests : (slot : Slot) (m : ℕ) (s : M.State) → Lifts m s (test slot m) M.holds (p slot)) (Tests : Slot → State → Type 0) (cans : (slot : Slot) (m : ℕ) (s : M.State) → Conveys m s (test slot m) (low.CanHold R P) (Tests slot)) where
    test_can : (slot : Slot) (m : ℕ) (s : M.State) (c : L.Command) (d : L.Command) → low.CanRunAll R P (test slot m).before s → low.CanRun R P (L.If (loop_test slot (test slot m).phrase) c d) (after (test slot m).before s) → Tests slot (seen s)
    unfolding definitions
    test_can slot m s c d run h =
        cans slot m s run (after (test slot m).before s) (alike_self (test slot m).next (after (test slot m).before s)) h.0.1

    tested_after : (slot : Slot) (m : ℕ) (s : M.State) → M.holds (loop_test slot (test slot m).phrase) (after (test slot m).before s) ≡ is_used (seen s) slot && p slot (seen s)
    unfolding definitions
    tested_after slot m s =
        let k = tests slot m s in
        ap (λ z. M.holds (loop_test slot (test slot m).phrase) z) (ap (λ (r : M.Run). r.state) k.runs) ∙ tested slot (p slot) m s (test slot m) k

    module _ (term : Slot → L.Expr) (q : Slot → State → ℤ) (terms : (slot : Slot) (u : M.State) → M.value (term slot) u ≡ q slot (seen u)) (reads : (slot : Slot) (u : M.State) → low.CanValue R P (term slot) u → R (M.value (term slot) u)) where
      abbrev can_body : ℕ → Slot → ℕ → Made
      can_body n slot m = record { command = add_term n (term slot); next = m }

      abbrev Adding : State → List Slot → ℤ → Type 0
      Adding t all z = CanAdd R P (λ slot. Tests slot t) (λ slot. is_used t slot && p slot t) (λ slot. q slot t) all z

      counts_can : (all : List Slot) (n m : ℕ) → n < m → (s : M.State) → low.CanRunAll R P (visits false false test (can_body n) all m).commands s → Adding (seen s) all (at_fresh n s)
      unfolding definitions
      counts_can [] n m lt s h = tt
      counts_can (slot ∷ more) n m lt s h =
          let b = test slot m in
          let if_else : L.Command = L.If (loop_test slot b.phrase) (add_term n (term slot)) L.Skip in
          let others = visits false false test (can_body n) more b.next in
          let runs = split_all b.before (L.MoreCommand if_else others.commands) s h in
          let a = after b.before s in
          let k = alike_after m s b M.holds (p slot) (tests slot m s) in
          let passes_now = is_used (seen s) slot && p slot (seen s) in
          let term_is : M.value (term slot) a ≡ q slot (seen s) = terms slot a ∙ ap (q slot) k.sees in
          let next = adds n (term slot) a (q slot (seen s)) passes_now term_is in
          let step : (M.exec if_else a).state ≡ next.after =
          ap (λ v. (cond v (M.exec (add_term n (term slot)) a) (quiet a)).state) (tested_after slot m s) ∙ ap (λ (r : M.Run). r.state) next.runs in
          let rest = counts_can more n b.next (omega (arith, (tests slot m s).grows)) next.after (subst (low.CanRunAll R P others.commands) step runs.1.1) in
          let here : (pos 0 +ℤ at_fresh n a) +ℤ M.value (term slot) a ≡ at_fresh n s +ℤ q slot (seen s) =
          (let zero_left : (pos 0 +ℤ at_fresh n a) +ℤ M.value (term slot) a ≡ at_fresh n a +ℤ M.value (term slot) a = omega (arith, ints) in zero_left)
          ∙ ap₂ ◌+ℤ◌ (k.keeps n lt) term_is in (
            test_can slot m s (add_term n (term slot)) L.Skip runs.0 runs.1.0,
            subst R term_is (reads slot a runs.1.0.1.2.0),
            subst P here runs.1.0.1.2.1,
            subst (λ z. z) (ap₂ (λ t z. Adding t more z) (next.alike.sees ∙ k.sees) (next.counts ∙ ap (λ z. cond passes_now (z +ℤ q slot (seen s)) z) (k.keeps n lt))) rest,
          )

      counted_can : (all : List Slot) (n : ℕ) (s : M.State) → low.CanRunAll R P (counted test term all n).before s → Adding (seen s) all (pos 0)
      unfolding definitions
      counted_can all n s h =
          let a = M.put s (M.TempAt (temp.Fresh n)) (pos 0) in
          subst (λ z. Adding (seen s) all z) (put_here n s (pos 0)) (counts_can all n (suc n) (omega arith) a h.1)

    -- ---- loops of commands
    module _ (b : Bool) (later : Bool) (may : Allows b later) (body : Slot → ℕ → Made) (source : Slot → State → Run)
        (takes : (slot : Slot) (m : ℕ) (s : M.State) → TakesFrom (flags later) m (body slot m).next s (M.exec (body slot m).command s).state)
        (bodies : (slot : Slot) (m : ℕ) (s : M.State) → Ready b m s → told_low b (M.exec (body slot m).command s) ≡ told (source slot (seen s)))
        (Bodies : Slot → State → Type 0) (body_cans : (slot : Slot) (m : ℕ) (s : M.State) → Ready b m s → low.CanRun R P (body slot m).command s → Bodies slot (seen s)) where
      pub visits_can : (all : List Slot) (g : Bool) (m : ℕ) (s : M.State) → Allows b g → Ready b m s → low.CanRunAll R P (visits g later test body all m).commands s → CanVisit R P Tests Bodies p source all (seen s)
      unfolding definitions
      visits_can [] g m s hg ready h = tt
      visits_can (slot ∷ more) g m s hg ready h =
          let x = test slot m in
          let c = body slot x.next in
          let if_else : L.Command = L.If (loop_test slot x.phrase) c.command L.Skip in
          let others = visits later later test body more c.next in
          let k = tests slot m s in
          let a = after x.before s in
          let like = alike_after m s x M.holds (p slot) k in
          let runs = turn_can g x.before if_else others.commands s a (quiet_after m s x M.holds (p slot) k) h in
          let r = turn_run g x.before if_else s a in
          let d : Run = cond (is_used (seen s) slot && p slot (seen s)) (source slot (seen s)) (done (seen s)) in
          let first : told_low b r ≡ told d =
          ap (λ z. told_low b (turn_run g x.before if_else s z)) (ap (λ (q : M.Run). q.state) k.runs) ∙ slot_told b test p tests later may body source takes bodies slot g m s hg ready in (
            test_can slot m s c.command L.Skip runs.0 runs.1,
            subst (Bodies slot) like.sees (body_cans slot x.next a (ready_alike b m x.next s a ready like k.grows) runs.1.1),
            unless_on d.ended (CanVisit R P Tests Bodies p source more d.state) (λ on.
                subst (CanVisit R P Tests Bodies p source more) (ap (λ (q : Told). q.state) first)
                (visits_can more later c.next r.state may (goes_on b c.next r d (omega (arith, ready.room, k.grows, (takes slot x.next a).grows)) first on) runs.2)),
          )

  field_can : (o : Option ℤ) (all : List Slot) (f : Spot) (w : Context) (e : Expr) (x : Lifted L.Expr) (s : M.State) → ((k : ℤ) → o ≡ Some k → OnSlots all (Unless (is_given w e (seen s)) (CanValue R P w e (seen s)))) → (low.CanRunAll R P x.before s → low.CanValue R P x.phrase (after x.before s) → CanValue R P w e (seen s)) → low.CanRunAll R P (indexed_by o all f x).before s → OnSlots all (Unless (is_given w e (seen s)) (CanValue R P w e (seen s)))
  unfolding definitions
  field_can (Some k) all f w e x s l g run = l k refl
  field_can None all f w e x s l g run =
      let runs = split_all x.before (one (read_chain f x.phrase x.next all)) s run in
      index_counts w e (seen s) all (chain_index f x.phrase x.next all (after x.before s) (CanValue R P w e (seen s)) (λ h. g runs.0 h) runs.1.0)

  mutual
    unfolding definitions

    pub conveys : (w : Context) (e : Expr) (n : ℕ) (s : M.State) → Conveys n s (lift w e n) (low.CanValue R P) (CanValue R P w e)
    conveys w (Literal v) n s = λ run u a h. h
    conveys w (Name x) n s = λ run u a h. means_read w (Name x) n s u a (name_reads (w.arguments x.name) x.name u h)
    conveys w (Read x) n s = λ run u a h. means_read w (Read x) n s u a h
    conveys w (Sum es) n s = λ run u a h. conveys_sum w es (pos 0) n s run u a h
    conveys w (Product es) n s = λ run u a h. conveys_product w es (pos 1) n s run u a h
    conveys w (Neg e) n s = λ run u a h.
        (conveys w e n s run u a h.0, subst P (ap neg_ℤ (means_after n s (lift w e n) M.value (value w e) (lifts w e n s) u a)) h.1)
    conveys w (Field r e f) n s = λ run u a h. (
      field_can (literal_of (lift w e n).phrase) (slots w r.name) (spot (fields w r.name) f.name) w e (lift w e n) s (λ k i. index_given w e n s (slots w r.name) k i)
          (λ runs g. conveys w e n s runs (after (lift w e n).before s) (alike_self (lift w e n).next _) g) run,
      means_read w (Field r e f) n s u a (field_reads (literal_of (lift w e n).phrase) (slots w r.name) (spot (fields w r.name) f.name) (lift w e n) u h),
    )
    conveys w (Row r f) n s = λ run u a h. means_read w (Row r f) n s u a h
    conveys w (Count r q b) n s = λ run u a h.
        counted_can (λ slot. lift_cond (bind w r.name slot) b) (λ slot. holds (bind w r.name slot) b) (λ slot m z. lifts_cond (bind w r.name slot) b m z)
        (λ slot. CanHold R P (bind w r.name slot) b) (λ slot m z. conveys_cond (bind w r.name slot) b m z)
        (λ slot. L.Literal (pos 1)) (λ slot t. pos 1) (λ slot v. refl) (λ slot v k. k) (slots w q.name) n s run
    conveys w (Total r f q b) n s = λ run u a h.
        counted_can (λ slot. lift_cond (bind w r.name slot) b) (λ slot. holds (bind w r.name slot) b) (λ slot m z. lifts_cond (bind w r.name slot) b m z)
        (λ slot. CanHold R P (bind w r.name slot) b) (λ slot m z. conveys_cond (bind w r.name slot) b m z)
        (λ slot. read (field_cell slot f.name)) (λ slot t. t.database (field_cell slot f.name)) (λ slot v. refl) (λ slot v k. k) (slots w q.name) n s run

    conveys_sum : (w : Context) (es : Exprs) (k : ℤ) (n : ℕ) (s : M.State) → Conveys n s (lift_all w es n) (low.CanSum R P k) (λ t. CanSum R P w es t k)
    conveys_sum w NoExpr k n s = λ run u a h. tt
    conveys_sum w (MoreExpr e es) k n s = λ run u a h.
        let j = k +ℤ M.value (lift w e n).phrase u in
        let two = halves M.value sums (value w e) (sum_value w es) (low.CanValue R P) (low.CanSum R P j) (CanValue R P w e) (λ t. CanSum R P w es t j) n s (lift w e n) (lift_all w es)
        (lifts w e n s) (lifts_sum w es) (conveys w e n s) (conveys_sum w es j) run u a in
        let is = ap (λ z. k +ℤ z) two.2 in
        (two.0 h.0, subst P is h.1, subst (λ z. CanSum R P w es (seen s) z) is (two.1 h.2))

    conveys_product : (w : Context) (es : Exprs) (k : ℤ) (n : ℕ) (s : M.State) → Conveys n s (lift_all w es n) (low.CanProduct R P k) (λ t. CanProduct R P w es t k)
    conveys_product w NoExpr k n s = λ run u a h. tt
    conveys_product w (MoreExpr e es) k n s = λ run u a h.
        let j = k *ℤ M.value (lift w e n).phrase u in
        let two = halves M.value products (value w e) (product_value w es) (low.CanValue R P) (low.CanProduct R P j) (CanValue R P w e) (λ t. CanProduct R P w es t j) n s (lift w e n) (lift_all w es)
        (lifts w e n s) (lifts_product w es) (conveys w e n s) (conveys_product w es j) run u a in
        let is = ap (λ z. k *ℤ z) two.2 in
        (two.0 h.0, subst P is h.1, subst (λ z. CanProduct R P w es (seen s) z) is (two.1 h.2))

    conveys_test : (w : Context) (t : Test) (n : ℕ) (s : M.State) → Conveys n s (lift_test w t n) (low.CanPass R P) (CanPass R P w t)
    conveys_test w True n s = λ run u a h. tt
    conveys_test w (Not c) n s = λ run u a h. conveys_cond w c n s run u a h
    conveys_test w (Comparison op x y) n s = λ run u a h.
        let two = halves M.value M.value (value w x) (value w y) (low.CanValue R P) (low.CanValue R P) (CanValue R P w x) (CanValue R P w y) n s (lift w x n) (lift w y)
        (lifts w x n s) (lifts w y) (conveys w x n s) (conveys w y) run u a in
        (two.0 h.0, two.1 h.1)

    pub conveys_cond : (w : Context) (c : Cond) (n : ℕ) (s : M.State) → Conveys n s (lift_cond w c n) (low.CanHold R P) (CanHold R P w c)
    conveys_cond w NoTest n s = λ run u a h. tt
    conveys_cond w (MoreTest t c) n s = λ run u a h.
        let two = halves M.passes M.holds (passes w t) (holds w c) (low.CanPass R P) (low.CanHold R P) (CanPass R P w t) (CanHold R P w c) n s (lift_test w t n) (lift_cond w c)
        (lifts_test w t n s) (lifts_cond w c) (conveys_test w t n s) (conveys_cond w c) run u a in
        (two.0 h.0, two.1 h.1)
