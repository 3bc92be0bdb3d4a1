-- The L form of a command takes the fresh temporaries from its number on, and leaves those below as they were.
use Rattle.std.proofs.Common.{◌≡◌, ℕ, ◌<◌, ◌≤◌, ◌==◌, Bool, true, false, cond, ◌||◌, List, [], ◌∷◌, ℤ, pos, Option, Some, None, refl, ap, ◌∙◌, arith}
use Rattle.std.proofs.lemmas.Bool.{false≢true}
use Rattle.std.proofs.lemmas.Bool.Decides.{nat_tests}
use Rattle.homeo_syntax.specs.declared.low.Temp.TheVariants as temp
use Rattle.homeo_syntax.specs.declared.low.SplitName.TheVariants as split
use Rattle.homeo_syntax.specs.Low as L
use Rattle.homeo_syntax.specs.Source.{Command, Commands, Skip, Assign, Write, Print, If, Block, SetField, SetRow, Foreach, Insert, Delete, Update, Abort, NoCommand, MoreCommand}
use Rattle.homeo_meaning.specs.Key.{definitions}
use Rattle.homeo_meaning.specs.LowMeaning as M
use Rattle.homeo_meaning.specs.Context.{Spot, Slot, Context, spot, cell, field_cell, object, slots, fields, bind, slot_at}
use Rattle.homeo_meaning.specs.Meaning.{State, value, holds}
use Rattle.homeo_meaning.specs.LForm.{Lifted, Made, one_test, equal, read, flag, set_flag, unless_ended, guard, in_turn, combined, in_front, within, guarded, write_field, write_chain, write_at, write_by, pair, visits, Target, all_within, field_writes, fill_chain, lift, lift_cond, lift_values, literal_of, as_one, clear, form, forms}
use Rattle.homeo_meaning.specs.Aborts.{holds_abort, hold_abort}
use Rattle.homeo_lform.specs.Fresh.{flags, TakesFrom}
use Rattle.homeo_lform.proofs.Lifts.{at_fresh, quiet, Lifts, quiet_both, quiet_then, quiet_front, combined_lifts}
use Rattle.homeo_lform.proofs.Loops.{loop_test}
use Rattle.homeo_lform.proofs.Values.{lifts, lifts_cond}
use Rattle.homeo_lform.proofs.Writes.{fill_end, lifts_values, pair_value}

abbrev pub Keeps : ℕ → ℕ → M.State → M.State → Type 0
Keeps f n s u = (j : ℕ) → f ≤ j → j < n → at_fresh j u ≡ at_fresh j s

-- what can end its call may do so
abbrev pub Allows : Bool → Bool → Type 0
Allows b ends = ends ≡ true → b ≡ true

pub allows_left : (b x y : Bool) → Allows b (x || y) → Allows b x
allows_left b true y h = h
allows_left b false y h = λ e. absurd (false≢true e)

pub allows_right : (b x y : Bool) → Allows b (x || y) → Allows b y
allows_right b true true h = h
allows_right b true false h = λ e. absurd (false≢true e)
allows_right b false y h = h

-- a command that sets no fresh temporary
abbrev SetsNone : L.Command → Type 0
SetsNone c = (s : M.State) (j : ℕ) → at_fresh j (M.exec c s).state ≡ at_fresh j s

pub if_keeps : (f n : ℕ) (s : M.State) (b : Bool) (r r' : M.Run) → Keeps f n s r.state → Keeps f n s r'.state → Keeps f n s (cond b r r').state
unfolding definitions
if_keeps f n s true r r' h k = h
if_keeps f n s false r r' h k = k

-- the flag is set
flag_keeps : (b : Bool) (n : ℕ) (s : M.State) → b ≡ true → Keeps (flags b) n s (M.exec (set_flag (pos 1)) s).state
unfolding definitions
flag_keeps false n s e = absurd (false≢true e)
flag_keeps true n s e = λ j le lt. go j le (0 == j) refl
  where
    go : (j : ℕ) → 1 ≤ j → (v : Bool) → (0 == j) ≡ v → cond v (pos 1) (at_fresh j s) ≡ at_fresh j s
    go j le true e = absurd (grind (arith, nat_tests))
    go j le false e = refl

pub guard_keeps : (f n : ℕ) (s : M.State) (g : Bool) (c : L.Command) → Keeps f n s (M.exec c s).state → Keeps f n s (M.exec (guard g c) s).state
unfolding definitions
guard_keeps f n s false c h = h
guard_keeps f n s true c h = if_keeps f n s (M.holds (one_test (equal flag (pos 0))) s) (M.exec c s) (quiet s) h (λ j le lt. refl)

if_none : (b : L.Cond) (c d : L.Command) → SetsNone c → SetsNone d → SetsNone (L.If b c d)
unfolding definitions
if_none b c d h k s j = go (M.holds b s)
  where
    go : (v : Bool) → at_fresh j (cond v (M.exec c s) (M.exec d s)).state ≡ at_fresh j s
    go true = h s j
    go false = k s j

front_takes : {A V : Type 0} (at : A → M.State → V) (v : State → V) (f n : ℕ) (s : M.State) (x : Lifted A) (c : L.Command) → Lifts n s x at v → SetsNone c → TakesFrom f n x.next s (M.exec (in_front x.before c) s).state
unfolding definitions
front_takes at v f n s x c k h =
    record {
      grows = k.grows;
      keeps = λ j le lt. ap (λ (r : M.Run). at_fresh j r.state) (quiet_front x.before c s k.after k.runs) ∙ h k.after j ∙ k.alike.keeps j lt;
    }

guarded_none : (b : Spot) (x : ℕ) (e : L.Expr) → SetsNone (guarded b x e)
unfolding definitions
guarded_none b x e = if_none (within b e L.NoTest) (L.Write (split.Whole x) e) L.Skip (λ s j. refl) (λ s j. refl)

write_chain_none : (f : Spot) (i e : L.Expr) (all : List Slot) → SetsNone (write_chain f i e all)
unfolding definitions
write_chain_none f i e [] = λ s j. refl
write_chain_none f i e (slot ∷ more) =
    if_none (one_test (equal i (pos slot.number))) (L.Write (split.Whole (cell slot f)) e) (write_chain f i e more) (λ s j. refl) (write_chain_none f i e more)

writes_none : (slot : Slot) (xs : List Target) (cs : L.Commands) → ((s : M.State) (j : ℕ) → at_fresh j (M.exec_all cs s).state ≡ at_fresh j s) → (s : M.State) (j : ℕ) → at_fresh j (M.exec_all (field_writes slot xs cs) s).state ≡ at_fresh j s
unfolding definitions
writes_none slot [] cs h s j = h s j
writes_none slot (x ∷ xs) cs h s j = writes_none slot xs cs h (M.put s (M.BaseAt (cell slot x.field)) (at_fresh x.temp s)) j

fill_chain_none : (xs : List Target) (t : ℕ) (all : List Slot) → SetsNone (fill_chain xs t all)
unfolding definitions
fill_chain_none xs t [] = λ s j. refl
fill_chain_none xs t (slot ∷ more) = if_none (one_test (equal (read slot.used) (pos 0))) (L.Seq (field_writes slot xs (fill_end slot t))) (fill_chain xs t more) (writes_none slot xs (fill_end slot t) (λ s j. refl)) (fill_chain_none xs t more)

-- a field of a slot
pub row_takes : (f : ℕ) (slot : Slot) (name : ℕ) (v : State → ℤ) (n : ℕ) (s : M.State) (x : Lifted L.Expr) → Lifts n s x M.value v → TakesFrom f n (write_field slot name x).next s (M.exec (write_field slot name x).command s).state
unfolding definitions
row_takes f slot name v n s x k =
    front_takes M.value v f n s x (guarded (spot slot.fields name) (field_cell slot name) x.phrase) k (guarded_none (spot slot.fields name) (field_cell slot name) x.phrase)

at_takes : (o : Option Slot) (g : Spot) (f n : ℕ) (y : ℕ → Lifted L.Expr) (v : State → ℤ) → ((m : ℕ) (a : M.State) → Lifts m a (y m) M.value v) → (s : M.State) → TakesFrom f n (write_at o g n y).next s (M.exec (write_at o g n y).command s).state
unfolding definitions
at_takes None g f n y v k s = record { grows = omega arith; keeps = λ j le lt. refl }
at_takes (Some slot) g f n y v k s = front_takes M.value v f n s (y n) (guarded g (cell slot g) (y n).phrase) (k n s) (guarded_none g (cell slot g) (y n).phrase)

by_takes : (o : Option ℤ) (all : List Slot) (g : Spot) (x : Lifted L.Expr) (y : ℕ → Lifted L.Expr) (i v : State → ℤ) (f n : ℕ) (s : M.State) → Lifts n s x M.value i → ((m : ℕ) (a : M.State) → Lifts m a (y m) M.value v) → TakesFrom f n (write_by o all g x y).next s (M.exec (write_by o all g x y).command s).state
unfolding definitions
by_takes (Some k) all g x y i v f n s h l =
    let r = at_takes (slot_at k all) g f x.next y v l s in
    record { grows = omega (arith, h.grows, r.grows); keeps = λ j le lt. r.keeps j le (omega (arith, h.grows)) }
by_takes None all g x y i v f n s h l =
    front_takes pair_value (λ t. pair (i t) (v t)) f n s (combined pair x y) (L.If (within g (y x.next).phrase L.NoTest) (write_chain g x.phrase (y x.next).phrase all) L.Skip)
    (combined_lifts pair pair M.value M.value pair_value i v (λ a b u. refl) n s x y h l)
    (if_none (within g (y x.next).phrase L.NoTest) (write_chain g x.phrase (y x.next).phrase all) L.Skip (write_chain_none g x.phrase (y x.next).phrase all) (λ a j. refl))

-- ---- the commands of a slot, guarded or not
-- what they do from the state s, where those of the test lead to a
abbrev pub turn_run : Bool → L.Commands → L.Command → M.State → M.State → M.Run
unfolding definitions
turn_run true before c s a = M.exec (unless_ended (in_front before c)) s
turn_run false before c s a = M.exec c a

pub turn_runs : (g : Bool) (before : L.Commands) (c : L.Command) (more : L.Commands) (s a : M.State) → M.exec_all before s ≡ quiet a →
    M.exec_all (in_turn g before c more) s ≡ M.after_prints (turn_run g before c s a).prints (M.exec_all more (turn_run g before c s a).state)
unfolding definitions
turn_runs true before c more s a e = refl
turn_runs false before c more s a e = quiet_both before (L.MoreCommand c more) s a e

pub turn_keeps : (f n : ℕ) (g : Bool) (before : L.Commands) (c : L.Command) (s a : M.State) → M.exec_all before s ≡ quiet a → Keeps f n s (M.exec c a).state → Keeps f n s (turn_run g before c s a).state
unfolding definitions
turn_keeps f n true before c s a e h =
    guard_keeps f n s true (in_front before c) (λ j le lt. ap (λ (r : M.Run). at_fresh j r.state) (quiet_front before c s a e) ∙ h j le lt)
turn_keeps f n false before c s a e h = h

loop_takes : (test : Slot → ℕ → Lifted L.Cond) (p : Slot → State → Bool) → ((slot : Slot) (m : ℕ) (s : M.State) → Lifts m s (test slot m) M.holds (p slot)) → (body : Slot → ℕ → Made) (f : ℕ) → ((slot : Slot) (m : ℕ) (s : M.State) → TakesFrom f m (body slot m).next s (M.exec (body slot m).command s).state) → (all : List Slot) (g later : Bool) (n : ℕ) (s : M.State) → TakesFrom f n (visits g later test body all n).next s (M.exec_all (visits g later test body all n).commands s).state
unfolding definitions
loop_takes test p tests body f takes [] g later n s = record { grows = omega arith; keeps = λ j le lt. refl }
loop_takes test p tests body f takes (slot ∷ more) g later n s =
    let b = test slot n in
    let k = tests slot n s in
    let c = body slot b.next in
    let others = visits later later test body more c.next in
    let if_else : L.Command = L.If (loop_test slot b.phrase) c.command L.Skip in
    let x = takes slot b.next k.after in
    let a = (turn_run g b.before if_else s k.after).state in
    let y = loop_takes test p tests body f takes more later later c.next a in
    let inner : Keeps f b.next k.after (M.exec if_else k.after).state = if_keeps f b.next k.after (M.holds (loop_test slot b.phrase) k.after) (M.exec c.command k.after) (quiet k.after) x.keeps (λ j le lt. refl) in
    let step : Keeps f n s a = turn_keeps f n g b.before if_else s k.after k.runs (λ j le lt. inner j le (omega (arith, k.grows)) ∙ k.alike.keeps j lt) in
    record {
      grows = omega (arith, k.grows, x.grows, y.grows);
      keeps = λ j le lt. ap (λ (r : M.Run). at_fresh j r.state) (turn_runs g b.before if_else others.commands s k.after k.runs)
          ∙ y.keeps j le (omega (arith, k.grows, x.grows))
          ∙ step j le lt;
    }

-- b says whether the call can be ended
mutual
  unfolding definitions

  pub form_takes : (b : Bool) (w : Context) (c : Command) (n : ℕ) (s : M.State) → Allows b (holds_abort c) → TakesFrom (flags b) n (form w c n).next s (M.exec (form w c n).command s).state
  form_takes b w Skip n s h = record { grows = omega arith; keeps = λ j le lt. refl }
  form_takes b w (Assign t e) n s h = front_takes M.value (value w e) (flags b) n s (lift w e n) (L.Assign (temp.Named t.name) (lift w e n).phrase) (lifts w e n s) (λ a j. refl)
  form_takes b w (Write x e) n s h =
      front_takes M.value (value w e) (flags b) n s (lift w e n) (guarded (object w x.name) (object w x.name).place (lift w e n).phrase) (lifts w e n s) (guarded_none (object w x.name) (object w x.name).place (lift w e n).phrase)
  form_takes b w (Print e) n s h = front_takes M.value (value w e) (flags b) n s (lift w e n) (L.Print (lift w e n).phrase) (lifts w e n s) (λ a j. refl)
  form_takes b w (If t c d) n s h =
      let x = lift_cond w t n in
      let k = lifts_cond w t n s in
      let y = form w c x.next in
      let z = form w d y.next in
      let yt = form_takes b w c x.next k.after (allows_left b (holds_abort c) (holds_abort d) h) in
      let zt = form_takes b w d y.next k.after (allows_right b (holds_abort c) (holds_abort d) h) in
      record {
        grows = omega (arith, k.grows, yt.grows, zt.grows);
        keeps = λ j le lt. ap (λ (r : M.Run). at_fresh j r.state) (quiet_front x.before (L.If x.phrase y.command z.command) s k.after k.runs)
            ∙ if_keeps (flags b) x.next k.after (M.holds x.phrase k.after) (M.exec y.command k.after) (M.exec z.command k.after) yt.keeps (λ i m l. zt.keeps i m (omega (arith, yt.grows))) j le (omega (arith, k.grows))
            ∙ k.alike.keeps j lt;
      }
  form_takes b w (Block cs) n s h = forms_take b w false cs n s h
  form_takes b w (SetField q i f e) n s h =
      by_takes (literal_of (lift w i n).phrase) (slots w q.name) (spot (fields w q.name) f.name) (lift w i n) (lift w e) (value w i) (value w e) (flags b) n s (lifts w i n s) (lifts w e)
  form_takes b w (SetRow r f e) n s h = row_takes (flags b) (w.rows r.name) f.name (value w e) n s (lift w e n) (lifts w e n s)
  form_takes b w (Foreach r q t body) n s h =
      loop_takes (λ slot. lift_cond (bind w r.name slot) t) (λ slot. holds (bind w r.name slot) t) (λ slot m a. lifts_cond (bind w r.name slot) t m a)
      (λ slot m. as_one (forms (bind w r.name slot) false body m)) (flags b) (λ slot m a. forms_take b (bind w r.name slot) false body m a h) (slots w q.name) false (hold_abort body) n s
  form_takes b w (Insert q xs t) n s h =
      let x = lift_values w (fields w q.name) xs n in
      let k = lifts_values w (fields w q.name) xs n s in
      let last : L.Command = L.If (all_within x.phrase) (fill_chain x.phrase t.name (slots w q.name)) (L.Assign (temp.Named t.name) (L.Literal (pos 0))) in
      record {
        grows = k.grows;
        keeps = λ j le lt. ap (λ (r : M.Run). at_fresh j r.state) (quiet_then x.before last s k.after k.runs)
            ∙ if_none (all_within x.phrase) (fill_chain x.phrase t.name (slots w q.name)) (L.Assign (temp.Named t.name) (L.Literal (pos 0))) (fill_chain_none x.phrase t.name (slots w q.name)) (λ a i. refl) k.after j
            ∙ k.alike.keeps j lt;
      }
  form_takes b w (Delete r q t) n s h =
      loop_takes (λ slot. lift_cond (bind w r.name slot) t) (λ slot. holds (bind w r.name slot) t) (λ slot m a. lifts_cond (bind w r.name slot) t m a)
      clear (flags b) (λ slot m a. record { grows = omega arith; keeps = λ j le lt. refl }) (slots w q.name) false false n s
  form_takes b w (Update r q t f e) n s h =
      loop_takes (λ slot. lift_cond (bind w r.name slot) t) (λ slot. holds (bind w r.name slot) t) (λ slot m a. lifts_cond (bind w r.name slot) t m a)
      (λ slot m. write_field slot f.name (lift (bind w r.name slot) e m)) (flags b)
      (λ slot m a. row_takes (flags b) slot f.name (value (bind w r.name slot) e) m a (lift (bind w r.name slot) e m) (lifts (bind w r.name slot) e m a))
      (slots w q.name) false false n s
  form_takes b w Abort n s h = record { grows = omega arith; keeps = flag_keeps b n s (h refl) }

  pub forms_take : (b : Bool) (w : Context) (g : Bool) (cs : Commands) (n : ℕ) (s : M.State) → Allows b (hold_abort cs) → TakesFrom (flags b) n (forms w g cs n).next s (M.exec_all (forms w g cs n).commands s).state
  forms_take b w g NoCommand n s h = record { grows = omega arith; keeps = λ j le lt. refl }
  forms_take b w g (MoreCommand c cs) n s h =
      let x = form_takes b w c n s (allows_left b (holds_abort c) (hold_abort cs) h) in
      let y = forms_take b w (g || holds_abort c) cs (form w c n).next (M.exec (guard g (form w c n).command) s).state (allows_right b (holds_abort c) (hold_abort cs) h) in
      record {
        grows = omega (arith, x.grows, y.grows);
        keeps = λ j le lt. y.keeps j le (omega (arith, x.grows)) ∙ guard_keeps (flags b) n s g (form w c n).command x.keeps j le lt;
      }
