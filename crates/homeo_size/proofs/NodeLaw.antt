-- The count of nodes is no more than an L form has, and that is no more than its size.
use Rattle.std.proofs.Common.{◌≡◌, ℕ, suc, Bool, true, false, ◌||◌, ◌+◌, ◌*◌, ◌≤◌, List, [], ◌∷◌, length, ℤ, pos, Option, Some, None, refl, sym, ap, ap₂, ◌∙◌, subst, arith}
use Rattle.std.proofs.Math.Nat.{mul-le-mul_left}
use Rattle.std.proofs.lemmas.Int.{clamps}
use Rattle.homeo_lemmas.proofs.Naturals.{plus_assoc}
use Rattle.homeo_syntax.specs.declared.low.Temp.TheVariants as temp
use Rattle.homeo_syntax.specs.declared.low.SplitName.TheVariants as split
use Rattle.homeo_syntax.specs.Low as L
use Rattle.homeo_syntax.specs.Source.{Expr, Exprs, Literal, Name, Read, Sum, Product, Neg, Field, Row, Count, Total, NoExpr, MoreExpr, Test, Cond, True, Not, Comparison, NoTest, MoreTest, FieldValue, Command, Commands, Skip, Assign, Write, Print, If, Block, SetField, SetRow, Foreach, Insert, Delete, Update, Abort, NoCommand, MoreCommand}
use Rattle.homeo_meaning.specs.Key.{definitions as meaning_definitions}
use Rattle.homeo_meaning.specs.Schema.{Declared}
use Rattle.homeo_meaning.specs.Context.{Spot, Slot, Context, spot, cell, field_cell, object, slots, fields, bind, slot_at}
use Rattle.homeo_meaning.specs.Aborts.{holds_abort, hold_abort}
use Rattle.homeo_meaning.specs.LForm as form
use Rattle.homeo_meaning.specs.LForm.{Lifted, Made, both, one, in_front, equal, read, fresh, name_of, read_chain, read_slot, literal_of, indexed_by, write_chain, write_at, write_by, visits, counted, Target, all_within, field_writes, fill_chain, lift, lift_all, lift_test, lift_cond, lift_values}
use Rattle.homeo_lform.specs.SourceWrites.{given_field, given}
use Rattle.homeo_lform.proofs.Written.{given_literal}
use Rattle.homeo_size.specs.inner.Key.{definitions}
use Rattle.homeo_size.specs.inner.Nodes.{few, index_nodes, visit_nodes, nodes, all_nodes, test_nodes, tests_nodes, slot_nodes, write_nodes, values_nodes, command_nodes, commands_nodes}

-- ---- the nodes of an L form
abbrev mutual
  pub of_expr : L.Expr → ℕ
  of_expr (L.Literal n) = 1
  of_expr (L.OfTemp t) = 1
  of_expr (L.Read x) = 1
  of_expr (L.Sum es) = 1 + of_exprs es
  of_expr (L.Product es) = 1 + of_exprs es
  of_expr (L.Neg e) = 1 + of_expr e

  pub of_exprs : L.Exprs → ℕ
  of_exprs L.NoExpr = 0
  of_exprs (L.MoreExpr e es) = of_expr e + of_exprs es

abbrev mutual
  pub of_test : L.Test → ℕ
  of_test L.True = 1
  of_test (L.Not c) = 1 + of_tests c
  of_test (L.Comparison op a b) = 1 + (of_expr a + of_expr b)

  pub of_tests : L.Cond → ℕ
  of_tests L.NoTest = 0
  of_tests (L.MoreTest t c) = of_test t + of_tests c

abbrev mutual
  pub of_command : L.Command → ℕ
  of_command L.Skip = 1
  of_command (L.Assign t e) = 1 + of_expr e
  of_command (L.Write x e) = 1 + of_expr e
  of_command (L.Print e) = 1 + of_expr e
  of_command (L.Seq cs) = 1 + of_commands cs
  of_command (L.If b c d) = 1 + (of_tests b + (of_command c + of_command d))

  pub of_commands : L.Commands → ℕ
  of_commands L.NoCommand = 0
  of_commands (L.MoreCommand c cs) = of_command c + of_commands cs

-- ---- at most
few_le : (m n : ℕ) → m ≤ n → few m ≤ n
few_le m n h = omega (arith, clamps, h)

of_both : (cs ds : L.Commands) → of_commands (both cs ds) ≡ of_commands cs + of_commands ds
unfolding meaning_definitions
of_both L.NoCommand ds = zero_plus (of_commands ds)
  where
    zero_plus : (n : ℕ) → n ≡ 0 + n
    zero_plus n = omega arith
of_both (L.MoreCommand c cs) ds = ap (λ n. of_command c + n) (of_both cs ds) ∙ plus_assoc (of_command c) (of_commands cs) (of_commands ds)

-- a command with those of a lifting before it
of_front : (cs : L.Commands) (c : L.Command) → of_commands cs + of_command c ≤ of_command (in_front cs c)
unfolding meaning_definitions
of_front L.NoCommand c = omega arith
of_front (L.MoreCommand b bs) c = let e = of_both bs (one c) in omega (arith, e)

-- the nodes counted so far with those of one more phrase, and what is left
one_more : (xs ys : L.Commands) (a n m p q : ℕ) → n ≤ of_commands xs + p → m ≤ few (a + n) + (of_commands ys + q) → m ≤ a + (of_commands (both xs ys) + (p + q))
one_more xs ys a n m p q k l =
    let g = of_both xs ys in
    let fewer = few_le (a + n) (a + n) (omega arith) in
    omega (arith, k, l, g, fewer)

-- a lifting and its phrase
abbrev pub Has : {A : Type 0} → Lifted A → (A → ℕ) → ℕ → Type 0
Has x of n = n ≤ of_commands x.before + of x.phrase

from_none : {m n : ℕ} → m ≤ 0 + n → m ≤ n
from_none h = omega (arith, h)

-- ---- a field of the slot that an index names
read_chain_has : (f : Spot) (e : L.Expr) (t : ℕ) (slot : Slot) (more : List Slot) → length (slot ∷ more) + of_expr e ≤ of_command (read_chain f e t (slot ∷ more))
unfolding meaning_definitions
read_chain_has f e t slot [] = omega arith
read_chain_has f e t slot (next ∷ more) = let h = read_chain_has f e t next more in omega (arith, h)

slot_has : (f : Spot) (o : Option Slot) → 1 ≤ of_expr (read_slot f o)
unfolding meaning_definitions
slot_has f (Some slot) = omega arith
slot_has f None = omega arith

indexed_has : (o : Option ℤ) (all : List Slot) (f : Spot) (x : Lifted L.Expr) (n : ℕ) → Has x of_expr n → Has (indexed_by o all f x) of_expr (index_nodes o all n)
unfolding definitions meaning_definitions
indexed_has (Some v) all f x n h = let k = slot_has f (slot_at v all) in omega (arith, k)
indexed_has None [] f x n h = omega arith
indexed_has None (slot ∷ more) f x n h =
    let k = read_chain_has f x.phrase x.next slot more in
    let e = of_both x.before (one (read_chain f x.phrase x.next (slot ∷ more))) in
    let fewer = few_le (length (slot ∷ more) + n) (length (slot ∷ more) + n) (omega arith) in
    omega (arith, h, k, e, fewer)

indexed_same : (o p : Option ℤ) → o ≡ p → (all : List Slot) (f : Spot) (x : Lifted L.Expr) (n : ℕ) → Has x of_expr n → Has (indexed_by o all f x) of_expr (index_nodes p all n)
indexed_same o p e all f x n h = subst (λ q. Has (indexed_by o all f x) of_expr (index_nodes q all n)) e (indexed_has o all f x n h)

-- ---- visits
more_visits : (l n m : ℕ) → suc l * n ≡ n + l * n
more_visits l n m = omega arith

of_turn : (g : Bool) (before : L.Commands) (c : L.Command) (more : L.Commands) → of_commands before + (of_command c + of_commands more) ≤ of_commands (form.in_turn g before c more)
unfolding meaning_definitions
of_turn true before c more = let e = of_front before c in omega (arith, e)
of_turn false before c more = let e = of_both before (L.MoreCommand c more) in omega (arith, e)

of_guard : (g : Bool) (c : L.Command) → of_command c ≤ of_command (form.guard g c)
unfolding meaning_definitions
of_guard true c = omega arith
of_guard false c = omega arith

visits_have : (g later : Bool) (test : Slot → ℕ → Lifted L.Cond) (body : Slot → ℕ → Made) (n : ℕ) → ((slot : Slot) (m k : ℕ) → n ≤ of_commands (test slot m).before + (of_tests (test slot m).phrase + of_command (body slot k).command)) → (all : List Slot) (m : ℕ) → length all * (1 + n) ≤ of_commands (visits g later test body all m).commands
unfolding meaning_definitions
visits_have g later test body n h [] m = omega arith
visits_have g later test body n h (slot ∷ more) m =
    let b = test slot m in
    let c = body slot b.next in
    let rest = visits_have later later test body n h more c.next in
    let others : L.Commands = (visits later later test body more c.next).commands in
    let if_else : L.Command = L.If (L.MoreTest (equal (read slot.used) (pos 1)) b.phrase) c.command L.Skip in
    let e = of_turn g b.before if_else others in
    let k = h slot m b.next in
    let s = more_visits (length more) (1 + n) 0 in
    omega (arith, rest, e, k, s)

visit_le : (all : List Slot) (n m : ℕ) → length all * (1 + n) ≤ m → visit_nodes all n ≤ 1 + m
visit_le all n m h =
    let fewer = few_le (1 + n) (1 + n) (omega arith) in
    let product = mul-le-mul_left (length all) fewer in
    few_le (1 + length all * few (1 + n)) (1 + m) (omega (arith, product, h))

-- ---- phrases: where the context has the slots and arguments of x
module _ (x : Context) where
  pub record Same (w : Context) : Type 0 where
    pub slots' : (q : ℕ) → slots x q ≡ slots w q
    pub arguments' : (n : ℕ) → x.arguments n ≡ w.arguments n

  bound_same : (w : Context) (r : ℕ) (slot : Slot) → Same w → Same (bind w r slot)
  unfolding meaning_definitions
  bound_same w r slot h = record { slots' = h.slots'; arguments' = h.arguments' }

  literals_same : (w : Context) (h : Same w) (e : Expr) → given x e ≡ given w e
  unfolding definitions
  literals_same w h (Literal v) = refl
  literals_same w h (Name t) = h.arguments' t.name
  literals_same w h (Read o) = refl
  literals_same w h (Sum es) = refl
  literals_same w h (Product es) = refl
  literals_same w h (Neg e) = refl
  literals_same w h (Field q e f) = ap₂ given_field (literals_same w h e) (h.slots' q.name)
  literals_same w h (Row r f) = refl
  literals_same w h (Count r q c) = refl
  literals_same w h (Total r f q c) = refl

  literal_same : (w : Context) (h : Same w) (e : Expr) (n : ℕ) → literal_of (lift w e n).phrase ≡ given x e
  literal_same w h e n = given_literal w e n ∙ sym (literals_same w h e)

  name_has : (o : Option ℤ) (t : ℕ) → 1 ≤ of_expr (name_of o t)
  unfolding meaning_definitions
  name_has (Some v) t = omega arith
  name_has None t = omega arith

  counted_has : (test : Slot → ℕ → Lifted L.Cond) (term : Slot → L.Expr) (all : List Slot) (m n : ℕ) → ((slot : Slot) (k : ℕ) → Has (test slot k) of_tests n) → Has (counted test term all m) of_expr (visit_nodes all n)
  unfolding meaning_definitions
  counted_has test term all m n h =
      let body : Slot → ℕ → Made = λ slot k. record { command = L.Assign (temp.Fresh m) (L.Sum (L.MoreExpr (fresh m) (L.MoreExpr (term slot) L.NoExpr))); next = k } in
      let v = visits_have false false test body n (λ slot k i. let g = h slot k in omega (arith, g)) all (suc m) in
      let k = visit_le all n (of_commands (visits false false test body all (suc m)).commands) v in
      omega (arith, k)

  mutual
    unfolding definitions meaning_definitions

    expr_has : (w : Context) (h : Same w) (e : Expr) (n : ℕ) → Has (lift w e n) of_expr (nodes x e)
    expr_has w h (Literal v) n = omega arith
    expr_has w h (Name t) n = let k = name_has (w.arguments t.name) t.name in omega (arith, k)
    expr_has w h (Read o) n = omega arith
    expr_has w h (Sum es) n = let k = exprs_have w h es n 0 in few_le (1 + all_nodes x es 0) _ (omega (arith, k))
    expr_has w h (Product es) n = let k = exprs_have w h es n 0 in few_le (1 + all_nodes x es 0) _ (omega (arith, k))
    expr_has w h (Neg e) n = let k = expr_has w h e n in few_le (1 + nodes x e) _ (omega (arith, k))
    expr_has w h (Field q e f) n =
        subst (λ l. Has (indexed_by (literal_of (lift w e n).phrase) (slots w q.name) (spot (fields w q.name) f.name) (lift w e n)) of_expr (index_nodes (given x e) l (nodes x e))) (sym (h.slots' q.name))
        (indexed_same (literal_of (lift w e n).phrase) (given x e) (literal_same w h e n) (slots w q.name) (spot (fields w q.name) f.name) (lift w e n) (nodes x e) (expr_has w h e n))
    expr_has w h (Row r f) n = omega arith
    expr_has w h (Count r q c) n =
        subst (λ l. Has (lift w (Count r q c) n) of_expr (visit_nodes l (tests_nodes x c 0))) (sym (h.slots' q.name))
        (counted_has (λ slot. lift_cond (bind w r.name slot) c) (λ slot. L.Literal (pos 1)) (slots w q.name) n (tests_nodes x c 0) (λ slot k. from_none (tests_have (bind w r.name slot) (bound_same w r.name slot h) c k 0)))
    expr_has w h (Total r f q c) n =
        subst (λ l. Has (lift w (Total r f q c) n) of_expr (visit_nodes l (tests_nodes x c 0))) (sym (h.slots' q.name))
        (counted_has (λ slot. lift_cond (bind w r.name slot) c) _ (slots w q.name) n (tests_nodes x c 0) (λ slot k. from_none (tests_have (bind w r.name slot) (bound_same w r.name slot h) c k 0)))

    exprs_have : (w : Context) (h : Same w) (es : Exprs) (n a : ℕ) → all_nodes x es a ≤ a + (of_commands (lift_all w es n).before + of_exprs (lift_all w es n).phrase)
    exprs_have w h NoExpr n a = omega arith
    exprs_have w h (MoreExpr e es) n a =
        one_more (lift w e n).before (lift_all w es (lift w e n).next).before a (nodes x e) _ _ _ (expr_has w h e n) (exprs_have w h es (lift w e n).next (few (a + nodes x e)))

    test_has : (w : Context) (h : Same w) (t : Test) (n : ℕ) → Has (lift_test w t n) of_test (test_nodes x t)
    test_has w h True n = omega arith
    test_has w h (Not c) n = let k = tests_have w h c n 0 in few_le (1 + tests_nodes x c 0) _ (omega (arith, k))
    test_has w h (Comparison op a b) n =
        let k = expr_has w h a n in
        let l = expr_has w h b (lift w a n).next in
        let g = of_both (lift w a n).before (lift w b (lift w a n).next).before in
        few_le (nodes x a + nodes x b) _ (omega (arith, k, l, g))

    tests_have : (w : Context) (h : Same w) (c : Cond) (n a : ℕ) → tests_nodes x c a ≤ a + (of_commands (lift_cond w c n).before + of_tests (lift_cond w c n).phrase)
    tests_have w h NoTest n a = omega arith
    tests_have w h (MoreTest t c) n a =
        one_more (lift_test w t n).before (lift_cond w c (lift_test w t n).next).before a (test_nodes x t) _ _ _ (test_has w h t n) (tests_have w h c (lift_test w t n).next (few (a + test_nodes x t)))

  -- ---- commands
  placed_has : {A : Type 0} (of : A → ℕ) (f : A → L.Command) → ((a : A) → 1 + of a ≤ of_command (f a)) → (y : Lifted A) (n : ℕ) → Has y of n → few (1 + n) ≤ of_command (form.placed y f).command
  unfolding meaning_definitions
  placed_has of f h y n k =
      let a = h y.phrase in
      let e = of_front y.before (f y.phrase) in
      few_le (1 + n) _ (omega (arith, k, a, e))

  guarded_has : (b : Spot) (o : ℕ) (e : L.Expr) → 1 + of_expr e ≤ of_command (form.guarded b o e)
  unfolding meaning_definitions
  guarded_has b o e = omega arith

  at_has : (o : Option Slot) (f : Spot) (m : ℕ) (y : ℕ → Lifted L.Expr) (n : ℕ) → ((k : ℕ) → Has (y k) of_expr n) → slot_nodes o n ≤ of_command (write_at o f m y).command
  unfolding definitions meaning_definitions
  at_has None f m y n h = omega arith
  at_has (Some slot) f m y n h = placed_has of_expr (form.guarded f (cell slot f)) (guarded_has f (cell slot f)) (y m) n (h m)

  write_chain_has : (f : Spot) (i e : L.Expr) (slot : Slot) (more : List Slot) → length (slot ∷ more) + (of_expr i + of_expr e) ≤ of_command (write_chain f i e (slot ∷ more))
  unfolding meaning_definitions
  write_chain_has f i e slot [] = omega arith
  write_chain_has f i e slot (next ∷ more) = let h = write_chain_has f i e next more in omega (arith, h)

  by_has : (o : Option ℤ) (all : List Slot) (f : Spot) (z : Lifted L.Expr) (y : ℕ → Lifted L.Expr) (m n : ℕ) → Has z of_expr m → ((k : ℕ) → Has (y k) of_expr n) → write_nodes o all m n ≤ of_command (write_by o all f z y).command
  unfolding definitions meaning_definitions
  by_has (Some v) all f z y m n h k = at_has (slot_at v all) f z.next y n k
  by_has None [] f z y m n h k =
      let g = k z.next in
      let e = of_both z.before (y z.next).before in
      let front = of_front (both z.before (y z.next).before) (L.If (form.within f (y z.next).phrase L.NoTest) L.Skip L.Skip) in
      few_le (1 + n) _ (omega (arith, g, e, front))
  by_has None (slot ∷ more) f z y m n h k =
      let g = k z.next in
      let e = of_both z.before (y z.next).before in
      let chain = write_chain_has f z.phrase (y z.next).phrase slot more in
      let front = of_front (both z.before (y z.next).before) (L.If (form.within f (y z.next).phrase L.NoTest) (write_chain f z.phrase (y z.next).phrase (slot ∷ more)) L.Skip) in
      let fewer = few_le (m + n) (m + n) (omega arith) in
      few_le (length (slot ∷ more) + few (m + n)) _ (omega (arith, h, g, e, chain, front, fewer))

  by_same : (o p : Option ℤ) → o ≡ p → (all : List Slot) (f : Spot) (z : Lifted L.Expr) (y : ℕ → Lifted L.Expr) (m n : ℕ) → Has z of_expr m → ((k : ℕ) → Has (y k) of_expr n) → write_nodes p all m n ≤ of_command (write_by o all f z y).command
  by_same o p e all f z y m n h k = subst (λ q. write_nodes q all m n ≤ of_command (write_by o all f z y).command) e (by_has o all f z y m n h k)

  -- ---- inserts
  values_have : (w : Context) (h : Same w) (ds : List Declared) (fs : List FieldValue) (n a : ℕ) → values_nodes x fs a ≤ a + of_commands (lift_values w ds fs n).before
  unfolding definitions meaning_definitions
  values_have w h ds [] n a = omega arith
  values_have w h ds (f ∷ fs) n a =
      let v : Lifted L.Expr = lift w f.value n in
      let store : L.Commands = both v.before (one (L.Assign (temp.Fresh v.next) v.phrase)) in
      let k = expr_has w h f.value n in
      let l = values_have w h ds fs (suc v.next) (few (a + nodes x f.value)) in
      let g = of_both v.before (one (L.Assign (temp.Fresh v.next) v.phrase)) in
      let e = of_both store (lift_values w ds fs (suc v.next)).before in
      let fewer = few_le (a + nodes x f.value) (a + nodes x f.value) (omega arith) in
      omega (arith, k, l, g, e, fewer)

  targets_of : (w : Context) (ds : List Declared) (fs : List FieldValue) (n : ℕ) → length (lift_values w ds fs n).phrase ≡ length fs
  unfolding meaning_definitions
  targets_of w ds [] n = refl
  targets_of w ds (f ∷ fs) n = ap suc (targets_of w ds fs (suc (lift w f.value n).next))

  writes_have : (slot : Slot) (xs : List Target) (cs : L.Commands) → length xs + of_commands cs ≤ of_commands (field_writes slot xs cs)
  unfolding meaning_definitions
  writes_have slot [] cs = omega arith
  writes_have slot (t ∷ ts) cs = let h = writes_have slot ts cs in omega (arith, h)

  fill_chain_has : (xs : List Target) (t : ℕ) (all : List Slot) → 1 + length all * (1 + length xs) ≤ of_command (fill_chain xs t all)
  unfolding meaning_definitions
  fill_chain_has xs t [] = omega arith
  fill_chain_has xs t (slot ∷ more) =
      let h = fill_chain_has xs t more in
      let g = writes_have slot xs (L.MoreCommand (L.Write (split.Whole slot.used) (L.Literal (pos 1))) (one (L.Assign (temp.Named t) (L.Literal (pos (suc slot.number)))))) in
      let s = more_visits (length more) (1 + length xs) 0 in
      omega (arith, h, g, s)

  insert_has : (w : Context) (h : Same w) (ds : List Declared) (fs : List FieldValue) (all : List Slot) (t n : ℕ) → values_nodes x fs (few (1 + length all * few (1 + length fs))) ≤ of_command (form.inserted all t (lift_values w ds fs n)).command
  unfolding definitions meaning_definitions
  insert_has w h ds fs all t n =
      let v : Lifted (List Target) = lift_values w ds fs n in
      let last : L.Command = L.If (all_within v.phrase) (fill_chain v.phrase t all) (L.Assign (temp.Named t) (L.Literal (pos 0))) in
      let first : ℕ = few (1 + length all * few (1 + length fs)) in
      let k = values_have w h ds fs n first in
      let chain = fill_chain_has v.phrase t all in
      let same : length all * (1 + length v.phrase) ≡ length all * (1 + length fs) = ap (λ l. length all * (1 + l)) (targets_of w ds fs n) in
      let fewer = few_le (1 + length fs) (1 + length fs) (omega arith) in
      let product = mul-le-mul_left (length all) fewer in
      let least = few_le (1 + length all * few (1 + length fs)) (1 + length all * (1 + length fs)) (omega (arith, product)) in
      let e = of_both v.before (one last) in
      omega (arith, k, chain, same, least, e)

  -- ---- loops
  loop_has : (w : Context) (h : Same w) (r q : ℕ) (c : Cond) (ends : Bool) (body : Slot → ℕ → Made) (m n k : ℕ) → k ≤ tests_nodes x c 0 + m → ((slot : Slot) (i : ℕ) → m ≤ of_command (body slot i).command) → visit_nodes (slots x q) k ≤ of_command (form.loop w r q c ends body n).command
  unfolding definitions meaning_definitions
  loop_has w h r q c ends body m n k le has =
      let v = visits_have false ends (λ slot. lift_cond (bind w r slot) c) body k (λ slot i j. one_visit slot i j) (slots w q) n in
      subst (λ l. visit_nodes l k ≤ of_command (form.loop w r q c ends body n).command) (sym (h.slots' q)) (visit_le (slots w q) k (of_commands (visits false ends (λ slot. lift_cond (bind w r slot) c) body (slots w q) n).commands) v)
    where
      one_visit : (slot : Slot) (i j : ℕ) → k ≤ of_commands (lift_cond (bind w r slot) c i).before + (of_tests (lift_cond (bind w r slot) c i).phrase + of_command (body slot j).command)
      one_visit slot i j =
          let t = tests_have (bind w r slot) (bound_same w r slot h) c i 0 in
          let b = has slot j in
          omega (arith, t, b, le)

  mutual
    unfolding definitions meaning_definitions

    command_has : (w : Context) (h : Same w) (c : Command) (n : ℕ) → command_nodes x c ≤ of_command (form.form w c n).command
    command_has w h Skip n = omega arith
    command_has w h (Assign t e) n = placed_has of_expr (L.Assign (temp.Named t.name)) (λ a. omega arith) (lift w e n) (nodes x e) (expr_has w h e n)
    command_has w h (Write o e) n = placed_has of_expr (form.guarded (object w o.name) (object w o.name).place) (guarded_has (object w o.name) (object w o.name).place) (lift w e n) (nodes x e) (expr_has w h e n)
    command_has w h (Print e) n = placed_has of_expr L.Print (λ a. omega arith) (lift w e n) (nodes x e) (expr_has w h e n)
    command_has w h (If b c d) n =
        let y = lift_cond w b n in
        let p = form.form w c y.next in
        let q = form.form w d p.next in
        let t = tests_have w h b n 0 in
        let k = command_has w h c y.next in
        let l = command_has w h d p.next in
        let front = of_front y.before (L.If y.phrase p.command q.command) in
        let fewer = few_le (command_nodes x c + command_nodes x d) (command_nodes x c + command_nodes x d) (omega arith) in
        few_le (tests_nodes x b 0 + few (command_nodes x c + command_nodes x d)) _ (omega (arith, t, k, l, front, fewer))
    command_has w h (Block cs) n = commands_have w h false cs n 1
    command_has w h (SetField q i f e) n =
        subst (λ l. write_nodes (given x i) l (nodes x i) (nodes x e) ≤ of_command (form.form w (SetField q i f e) n).command) (sym (h.slots' q.name))
        (by_same (literal_of (lift w i n).phrase) (given x i) (literal_same w h i n) (slots w q.name) (spot (fields w q.name) f.name) (lift w i n) (lift w e) (nodes x i) (nodes x e) (expr_has w h i n) (λ k. expr_has w h e k))
    command_has w h (SetRow r f e) n = placed_has of_expr (form.guarded (spot (w.rows r.name).fields f.name) (field_cell (w.rows r.name) f.name)) (guarded_has (spot (w.rows r.name).fields f.name) (field_cell (w.rows r.name) f.name)) (lift w e n) (nodes x e) (expr_has w h e n)
    command_has w h (Foreach r q c cs) n =
        loop_has w h r.name q.name c (hold_abort cs) (λ slot m. form.as_one (form.forms (bind w r.name slot) false cs m)) (commands_nodes x cs 0) n (few (tests_nodes x c 0 + commands_nodes x cs 0)) (few_le (tests_nodes x c 0 + commands_nodes x cs 0) _ (omega arith))
        (λ slot i. let k = commands_have (bind w r.name slot) (bound_same w r.name slot h) false cs i 0 in omega (arith, k))
    command_has w h (Insert q fs t) n =
        subst (λ l. values_nodes x fs (few (1 + length l * few (1 + length fs))) ≤ of_command (form.form w (Insert q fs t) n).command) (sym (h.slots' q.name))
        (insert_has w h (fields w q.name) fs (slots w q.name) t.name n)
    command_has w h (Delete r q c) n =
        loop_has w h r.name q.name c false form.clear 0 n (tests_nodes x c 0) (omega arith) (λ slot i. omega arith)
    command_has w h (Update r q c f e) n =
        loop_has w h r.name q.name c false (λ slot m. form.write_field slot f.name (lift (bind w r.name slot) e m)) (nodes x e) n (few (tests_nodes x c 0 + nodes x e)) (few_le (tests_nodes x c 0 + nodes x e) _ (omega arith))
        (λ slot i. sets slot i)
      where
        sets : (slot : Slot) (i : ℕ) → nodes x e ≤ of_command (form.write_field slot f.name (lift (bind w r.name slot) e i)).command
        sets slot i =
            let k = expr_has (bind w r.name slot) (bound_same w r.name slot h) e i in
            let a = guarded_has (spot slot.fields f.name) 0 (lift (bind w r.name slot) e i).phrase in
            let front = of_front (lift (bind w r.name slot) e i).before (form.guarded (spot slot.fields f.name) (field_cell slot f.name) (lift (bind w r.name slot) e i).phrase) in
            omega (arith, k, a, front)
    command_has w h Abort n = omega arith

    pub commands_have : (w : Context) (h : Same w) (g : Bool) (cs : Commands) (n a : ℕ) → commands_nodes x cs a ≤ a + of_commands (form.forms w g cs n).commands
    commands_have w h g NoCommand n a = omega arith
    commands_have w h g (MoreCommand c cs) n a =
        let k = command_has w h c n in
        let l = commands_have w h (g || holds_abort c) cs (form.form w c n).next (few (a + command_nodes x c)) in
        let fewer = few_le (a + command_nodes x c) (a + command_nodes x c) (omega arith) in
        let e = of_guard g (form.form w c n).command in
        omega (arith, k, l, fewer, e)

  -- ---- what stands round a body that can end its call
  saves_have : (n : ℕ) (xs : List ℕ) (more : L.Commands) → of_commands more ≤ of_commands (form.saves n xs more)
  unfolding meaning_definitions
  saves_have n [] more = omega arith
  saves_have n (o ∷ xs) more = let e = saves_have (suc n) xs more in omega (arith, e)

  undoing_has : (saved : List ℕ) (body : L.Commands) → 1 + of_commands body ≤ of_command (form.undoing saved body)
  unfolding meaning_definitions
  undoing_has saved body = let e = saves_have 1 saved (L.MoreCommand (L.Seq body) (one (form.undo saved))) in omega (arith, e)

  body_has : (w : Context) (h : Same w) (b : Bool) (cs : Commands) → commands_nodes x cs 1 ≤ of_command (form.body_by b w cs)
  unfolding meaning_definitions
  body_has w h false cs = commands_have w h false cs 0 1
  body_has w h true cs =
      let saved : List ℕ = form.saved_in w cs in
      let e = commands_have w h false cs (1 + length saved) 1 in
      let f = undoing_has saved (form.forms w false cs (1 + length saved)).commands in
      omega (arith, e, f)

  pub form_has : (w : Context) (h : Same w) (cs : Commands) → commands_nodes x cs 1 ≤ of_command (form.body_by (hold_abort cs) w cs)
  form_has w h cs = body_has w h (hold_abort cs) cs
