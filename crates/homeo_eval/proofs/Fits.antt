-- Where each number that a program computes is small, it can be run.
use Rattle.std.proofs.Common.{◌≡◌, ℕ, Bool, true, false, cond, ◌&&◌, ◌||◌, List, [], ◌∷◌, ℤ, pos, ◌+ℤ◌, ◌*ℤ◌, neg_ℤ, Option, Some, None, refl, arith}
use Rattle.std.proofs.lemmas.Bool.{and_parts, and_from, false≢true}
use Rattle.std.proofs.lemmas.Bool.Decides.{nat_tests}
use Rattle.homeo_syntax.specs.Source.{Expr, Exprs, Literal, Name, Read, Sum, Product, Neg, Field, Row, Count, Total, NoExpr, MoreExpr, Test, Cond, True, Not, Comparison, NoTest, MoreTest, FieldValue, Command, Commands, Skip, Assign, Write, Print, If, Block, SetField, SetRow, Foreach, Insert, Delete, Update, Abort, NoCommand, MoreCommand}
use Rattle.homeo_meaning.specs.Key.{definitions}
use Rattle.homeo_meaning.specs.Context.{Slot, Context, field_cell, slots, bind, slot_at}
use Rattle.homeo_meaning.specs.Meaning.{State, Run, done, is_used, value, holds, set_object, write_field, does, does_all}
use Rattle.homeo_meaning.specs.Small.{IsSmall}
use Rattle.homeo_meaning.specs.Computed.{is_given, Unless, OnSlots, OnSlot, CanAdd, CanValue, CanSum, CanProduct, CanPass, CanHold, CanValues, CanVisit, CanRun, CanRunAll}
use Rattle.homeo_meaning.specs.Small.{is_small}
use Rattle.homeo_eval.specs.inner.CanRun.{on_slots, on_slot, adding_fits, expr_fits, sum_fits, product_fits, test_fits, cond_fits, values_fit, visits_fit, can_run, can_run_all}

small : (b : ℕ) (v : ℤ) → IsSmall b v → is_small b v ≡ true
unfolding definitions
small b v h = grind (arith, nat_tests)

any_slots : (all : List Slot) (fits : Bool) → fits ≡ true → on_slots all fits ≡ true
unfolding definitions
any_slots [] fits e = refl
any_slots (slot ∷ more) fits e = e

-- a given index computes nothing
given_fits : (b : ℕ) (x : Context) (e : Expr) (s : State) → is_given x e s ≡ true → expr_fits b x e s ≡ true
unfolding definitions
given_fits b x (Literal n) s e = refl
given_fits b x (Name t) s e = refl
given_fits b x (Read o) s e = refl
given_fits b x (Sum es) s e = absurd (false≢true e)
given_fits b x (Product es) s e = absurd (false≢true e)
given_fits b x (Neg a) s e = absurd (false≢true e)
given_fits b x (Field q a f) s e =
    any_slots (slots x q.name) (expr_fits b x a s) (given_fits b x a s (and_parts (is_given x a s) _ e).0)
given_fits b x (Row r f) s e = refl
given_fits b x (Count r q c) s e = absurd (false≢true e)
given_fits b x (Total r f q c) s e = absurd (false≢true e)

-- what is not done needs nothing
ended_or : (v : Bool) (T : Type 0) (fits : Bool) → (T → fits ≡ true) → Unless v T → v || fits ≡ true
ended_or true T fits k h = refl
ended_or false T fits k h = k h

some_slot : (o : Option Slot) (T : Type 0) (fits : Bool) → (T → fits ≡ true) → OnSlot o T → on_slot o fits ≡ true
unfolding definitions
some_slot None T fits k h = refl
some_slot (Some slot) T fits k h = k h

module _ (R : ℤ → Type 0) (b : ℕ) where
  index_fits : (x : Context) (e : Expr) (s : State) (all : List Slot) → (CanValue R (IsSmall b) x e s → expr_fits b x e s ≡ true) → OnSlots all (Unless (is_given x e s) (CanValue R (IsSmall b) x e s)) → on_slots all (expr_fits b x e s) ≡ true
  unfolding definitions
  index_fits x e s [] k h = refl
  index_fits x e s (slot ∷ more) k h = by_case (is_given x e s) refl h
    where
      by_case : (g : Bool) → is_given x e s ≡ g → Unless g (CanValue R (IsSmall b) x e s) → expr_fits b x e s ≡ true
      by_case true is h = given_fits b x e s is
      by_case false is h = k h

  adds : (Tests : Slot → Type 0) (tests passes : Slot → Bool) (term : Slot → ℤ) → ((slot : Slot) → Tests slot → tests slot ≡ true) → (all : List Slot) (n : ℤ) → CanAdd R (IsSmall b) Tests passes term all n → adding_fits b tests passes term all n ≡ true
  unfolding definitions
  adds Tests tests passes term k [] n h = refl
  adds Tests tests passes term k (slot ∷ more) n h =
      and_from (tests slot) _ (k slot h.0) (and_from (is_small b (n +ℤ term slot)) _ (small b (n +ℤ term slot) h.2) (adds Tests tests passes term k more (cond (passes slot) (n +ℤ term slot) n) h.3))

  mutual
    unfolding definitions

    value_fits : (x : Context) (e : Expr) (s : State) → CanValue R (IsSmall b) x e s → expr_fits b x e s ≡ true
    value_fits x (Literal n) s h = refl
    value_fits x (Name t) s h = refl
    value_fits x (Read o) s h = refl
    value_fits x (Sum es) s h = terms_fit x es s (pos 0) h
    value_fits x (Product es) s h = factors_fit x es s (pos 1) h
    value_fits x (Neg e) s h = and_from (expr_fits b x e s) _ (value_fits x e s h.0) (small b (neg_ℤ (value x e s)) h.1)
    value_fits x (Field q e f) s h = index_fits x e s (slots x q.name) (value_fits x e s) h.0
    value_fits x (Row r f) s h = refl
    value_fits x (Count r q c) s h =
        adds (λ slot. CanHold R (IsSmall b) (bind x r.name slot) c s) (λ slot. cond_fits b (bind x r.name slot) c s) (λ slot. is_used s slot && holds (bind x r.name slot) c s) (λ slot. pos 1) (λ slot k. hold_fits (bind x r.name slot) c s k) (slots x q.name) (pos 0) h
    value_fits x (Total r f q c) s h =
        adds (λ slot. CanHold R (IsSmall b) (bind x r.name slot) c s) (λ slot. cond_fits b (bind x r.name slot) c s) (λ slot. is_used s slot && holds (bind x r.name slot) c s) (λ slot. s.database (field_cell slot f.name)) (λ slot k. hold_fits (bind x r.name slot) c s k) (slots x q.name) (pos 0) h

    terms_fit : (x : Context) (es : Exprs) (s : State) (n : ℤ) → CanSum R (IsSmall b) x es s n → sum_fits b x es s n ≡ true
    terms_fit x NoExpr s n h = refl
    terms_fit x (MoreExpr e es) s n h =
        and_from (expr_fits b x e s) _ (value_fits x e s h.0) (and_from (is_small b (n +ℤ value x e s)) _ (small b (n +ℤ value x e s) h.1) (terms_fit x es s (n +ℤ value x e s) h.2))

    factors_fit : (x : Context) (es : Exprs) (s : State) (n : ℤ) → CanProduct R (IsSmall b) x es s n → product_fits b x es s n ≡ true
    factors_fit x NoExpr s n h = refl
    factors_fit x (MoreExpr e es) s n h =
        and_from (expr_fits b x e s) _ (value_fits x e s h.0) (and_from (is_small b (n *ℤ value x e s)) _ (small b (n *ℤ value x e s) h.1) (factors_fit x es s (n *ℤ value x e s) h.2))

    pass_fits : (x : Context) (t : Test) (s : State) → CanPass R (IsSmall b) x t s → test_fits b x t s ≡ true
    pass_fits x True s h = refl
    pass_fits x (Not c) s h = hold_fits x c s h
    pass_fits x (Comparison op l r) s h = and_from (expr_fits b x l s) _ (value_fits x l s h.0) (value_fits x r s h.1)

    hold_fits : (x : Context) (c : Cond) (s : State) → CanHold R (IsSmall b) x c s → cond_fits b x c s ≡ true
    hold_fits x NoTest s h = refl
    hold_fits x (MoreTest t c) s h = and_from (test_fits b x t s) _ (pass_fits x t s h.0) (hold_fits x c s h.1)

  all_values_fit : (x : Context) (fs : List FieldValue) (s : State) → CanValues R (IsSmall b) x fs s → values_fit b x fs s ≡ true
  unfolding definitions
  all_values_fit x [] s h = refl
  all_values_fit x (f ∷ more) s h = and_from (expr_fits b x f.value s) _ (value_fits x f.value s h.0) (all_values_fit x more s h.1)

  visits : (Tests Bodies : Slot → State → Type 0) (tests bodies test : Slot → State → Bool) (body : Slot → State → Run) → ((slot : Slot) (s : State) → Tests slot s → tests slot s ≡ true) → ((slot : Slot) (s : State) → Bodies slot s → bodies slot s ≡ true) → (all : List Slot) (s : State) → CanVisit R (IsSmall b) Tests Bodies test body all s → visits_fit tests bodies test body all s ≡ true
  unfolding definitions
  visits Tests Bodies tests bodies test body k l [] s h = refl
  visits Tests Bodies tests bodies test body k l (slot ∷ more) s h =
      and_from (tests slot s) _ (k slot s h.0) (and_from (bodies slot s) _ (l slot s h.1)
      (ended_or (cond (is_used s slot && test slot s) (body slot s) (done s)).ended _ _ (visits Tests Bodies tests bodies test body k l more (cond (is_used s slot && test slot s) (body slot s) (done s)).state) h.2))

  mutual
    unfolding definitions

    run_fits : (x : Context) (c : Command) (s : State) → CanRun R (IsSmall b) x c s → can_run b x c s ≡ true
    run_fits x Skip s h = refl
    run_fits x (Assign t e) s h = value_fits x e s h
    run_fits x (Write o e) s h = value_fits x e s h
    run_fits x (Print e) s h = value_fits x e s h
    run_fits x (If t c d) s h = and_from (cond_fits b x t s) _ (hold_fits x t s h.0) (and_from (can_run b x c s) _ (run_fits x c s h.1) (run_fits x d s h.2))
    run_fits x (Block cs) s h = runs_fit x cs s h
    run_fits x (SetField q i f e) s h =
        and_from (on_slots (slots x q.name) (expr_fits b x i s)) _ (index_fits x i s (slots x q.name) (value_fits x i s) h.0) (some_slot (slot_at (value x i s) (slots x q.name)) (CanValue R (IsSmall b) x e s) (expr_fits b x e s) (value_fits x e s) h.1)
    run_fits x (SetRow r f e) s h = value_fits x e s h
    run_fits x (Foreach r q t body) s h =
        visits (λ slot. CanHold R (IsSmall b) (bind x r.name slot) t) (λ slot. CanRunAll R (IsSmall b) (bind x r.name slot) body) (λ slot. cond_fits b (bind x r.name slot) t) (λ slot. can_run_all b (bind x r.name slot) body) (λ slot. holds (bind x r.name slot) t) (λ slot. does_all (bind x r.name slot) body)
        (λ slot u k. hold_fits (bind x r.name slot) t u k) (λ slot u k. runs_fit (bind x r.name slot) body u k) (slots x q.name) s h
    run_fits x (Insert q fs t) s h = all_values_fit x fs s h
    run_fits x (Delete r q t) s h =
        visits (λ slot. CanHold R (IsSmall b) (bind x r.name slot) t) (λ slot u. Unit {0}) (λ slot. cond_fits b (bind x r.name slot) t) (λ slot u. true) (λ slot. holds (bind x r.name slot) t) (λ slot u. done (set_object u slot.used (pos 0)))
        (λ slot u k. hold_fits (bind x r.name slot) t u k) (λ slot u k. refl) (slots x q.name) s h
    run_fits x (Update r q t f e) s h =
        visits (λ slot. CanHold R (IsSmall b) (bind x r.name slot) t) (λ slot. CanValue R (IsSmall b) (bind x r.name slot) e) (λ slot. cond_fits b (bind x r.name slot) t) (λ slot. expr_fits b (bind x r.name slot) e) (λ slot. holds (bind x r.name slot) t) (λ slot u. done (write_field u slot f.name (value (bind x r.name slot) e u)))
        (λ slot u k. hold_fits (bind x r.name slot) t u k) (λ slot u k. value_fits (bind x r.name slot) e u k) (slots x q.name) s h
    run_fits x Abort s h = refl

    pub runs_fit : (x : Context) (cs : Commands) (s : State) → CanRunAll R (IsSmall b) x cs s → can_run_all b x cs s ≡ true
    runs_fit x NoCommand s h = refl
    runs_fit x (MoreCommand c cs) s h = and_from (can_run b x c s) _ (run_fits x c s h.0) (ended_or (does x c s).ended _ _ (runs_fit x cs (does x c s).state) h.1)
