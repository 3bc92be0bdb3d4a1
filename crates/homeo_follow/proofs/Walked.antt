-- The row that is walked from a base asks the atoms of the command that is followed.
use Rattle.homeo_meaning.specs.Key.{definitions as meaning_definitions}
use Rattle.homeo_plan.specs.Key.{definitions as plan_definitions}
use Rattle.homeo_follow.specs.Key.{definitions}
use Rattle.std.proofs.Common.{◌≡◌, ℕ, Bool, true, false, cond, not, ◌&&◌, ◌++◌, ℤ, pos, ◌+ℤ◌, ◌*ℤ◌, int_lt, refl, sym, ap, ap₂, ◌∙◌, append_assoc, append-nil, arith}
use mathlib.Core.Path.{fun_ext}
use Rattle.std.proofs.lemmas.Int.{ints}
use Rattle.homeo_syntax.specs.Low.{Expr, Exprs, Literal, OfTemp, Read, Sum, Product, Neg, NoExpr, MoreExpr, Test, Cond, True, Not, Comparison, NoTest, MoreTest, Command, Commands, Skip, Assign, Write, Print, Seq, If, NoCommand, MoreCommand}
use Rattle.homeo_meaning.specs.Meaning.{compared}
use Rattle.homeo_meaning.specs.LowMeaning.{Location, TempAt, BaseAt, DeltaAt, State, location_of, same_location, put, value, sum_value, product_value, passes, holds, exec, exec_all, whole}
use Rattle.homeo_plan.specs.Linear.{Linear, constant_form, add_forms, scale_form, multiply_forms, is_pure, mix_forms, Forms, base_forms, form, sum_form, product_form}
use Rattle.homeo_plan.specs.Atoms.{true_comparison, false_comparison, true_test, false_test, true_cond, false_cond}
use Rattle.homeo_plan.specs.Table.{Row, replace_test, replace_cond, both, test_before, otherwise, clear_test, clear_cond, last_row, walk_before, walk_all_before, walk}
use Rattle.homeo_plan.proofs.Replaced.{form_replace}
use Rattle.homeo_plan.proofs.Cleared.{form_clear}
use Rattle.homeo_follow.specs.Follow.{passes_by, holds_by, passed_test, failed_test, passed, failed, asked, follow, follow_all}

-- ---- what stands at the base is the constants of the forms
abbrev pub constants : Forms → State
constants f p = (f p).constant

pub product_constant_is : (a b : Linear) → (multiply_forms a b).constant ≡ a.constant *ℤ b.constant
unfolding plan_definitions
product_constant_is a b = go (is_pure a) (is_pure b)
  where
    go : (u v : Bool) → (cond u (scale_form a.constant b) (cond v (scale_form b.constant a) (mix_forms a b))).constant ≡ a.constant *ℤ b.constant
    go true v = refl
    go false true = omega (arith, ints)
    go false false = refl

mutual
  unfolding plan_definitions meaning_definitions

  pub value_constant : (f : Forms) (e : Expr) → value e (constants f) ≡ (form f e).constant
  value_constant f (Literal n) = refl
  value_constant f (OfTemp t) = refl
  value_constant f (Read x) = refl
  value_constant f (Sum es) = sum_constant f es (constant_form (pos 0))
  value_constant f (Product es) = product_constant f es (constant_form (pos 1))
  value_constant f (Neg e) = omega (arith, ints, value_constant f e)

  sum_constant : (f : Forms) (es : Exprs) (a : Linear) → sum_value a.constant es (constants f) ≡ (sum_form f a es).constant
  sum_constant f NoExpr a = refl
  sum_constant f (MoreExpr e es) a =
      let next : a.constant +ℤ value e (constants f) ≡ (form f e).constant +ℤ a.constant = omega (arith, ints, value_constant f e) in
      ap (λ n. sum_value n es (constants f)) next ∙ sum_constant f es (add_forms (form f e) a)

  product_constant : (f : Forms) (es : Exprs) (a : Linear) → product_value a.constant es (constants f) ≡ (product_form f a es).constant
  product_constant f NoExpr a = refl
  product_constant f (MoreExpr e es) a =
      ap (λ n. product_value (a.constant *ℤ n) es (constants f)) (value_constant f e)
      ∙ ap (λ n. product_value n es (constants f)) (sym (product_constant_is a (form f e)))
      ∙ product_constant f es (multiply_forms a (form f e))

mutual
  unfolding definitions plan_definitions meaning_definitions

  pub passes_constant : (f : Forms) (t : Test) → passes t (constants f) ≡ passes_by f t
  passes_constant f True = refl
  passes_constant f (Not c) = ap not (holds_constant f c)
  passes_constant f (Comparison op a b) = ap₂ (compared op) (value_constant f a) (value_constant f b)

  pub holds_constant : (f : Forms) (c : Cond) → holds c (constants f) ≡ holds_by f c
  holds_constant f NoTest = refl
  holds_constant f (MoreTest t c) = ap₂ ◌&&◌ (passes_constant f t) (holds_constant f c)

put_constant : (f : Forms) (p : Location) (a : Linear) (n : ℤ) → n ≡ a.constant → put (constants f) p n ≡ constants (put f p a)
unfolding meaning_definitions
put_constant f p a n e = fun_ext (λ q. go q (same_location p q))
  where
    go : (q : Location) (b : Bool) → cond b n ((f q).constant) ≡ (cond b a (f q)).constant
    go q true = e
    go q false = refl

mutual
  unfolding definitions plan_definitions meaning_definitions

  pub state_after : (c : Command) (f : Forms) → (exec c (constants f)).state ≡ constants (follow c f).forms
  state_after Skip f = refl
  state_after (Assign t e) f = put_constant f (TempAt t) (form f e) (value e (constants f)) (value_constant f e)
  state_after (Write x e) f = put_constant f (location_of x) (form f e) (value e (constants f)) (value_constant f e)
  state_after (Print e) f = refl
  state_after (Seq cs) f = state_after_all cs f
  state_after (If b c d) f = go (holds b (constants f)) (holds_by f b) (holds_constant f b) (state_after c f) (state_after d f)
    where
      go :
          (u v : Bool) → u ≡ v → (exec c (constants f)).state ≡ constants (follow c f).forms →
          (exec d (constants f)).state ≡ constants (follow d f).forms →
          (cond u (exec c (constants f)) (exec d (constants f))).state ≡
          constants (cond v (asked (passed f b) (follow c f)) (asked (failed f b) (follow d f))).forms
      go true true e x y = x
      go true false e x y = cc
      go false true e x y = cc
      go false false e x y = y

  pub state_after_all : (cs : Commands) (f : Forms) → (exec_all cs (constants f)).state ≡ constants (follow_all cs f).forms
  state_after_all NoCommand f = refl
  state_after_all (MoreCommand c cs) f =
      ap (λ s. (exec_all cs s).state) (state_after c f) ∙ state_after_all cs (follow c f).forms

-- ---- an expression in place of what is read at a place
mutual
  unfolding definitions plan_definitions meaning_definitions

  passes_replaced : (p : Location) (e : Expr) (f : Forms) (t : Test) → passes_by f (replace_test p e t) ≡ passes_by (put f p (form f e)) t
  passes_replaced p e f True = refl
  passes_replaced p e f (Not c) = ap not (holds_replaced p e f c)
  passes_replaced p e f (Comparison op a b) = ap₂ (λ (x y : Linear). compared op x.constant y.constant) (form_replace p e f a) (form_replace p e f b)

  holds_replaced : (p : Location) (e : Expr) (f : Forms) (c : Cond) → holds_by f (replace_cond p e c) ≡ holds_by (put f p (form f e)) c
  holds_replaced p e f NoTest = refl
  holds_replaced p e f (MoreTest t c) = ap₂ ◌&&◌ (passes_replaced p e f t) (holds_replaced p e f c)

mutual
  unfolding definitions plan_definitions meaning_definitions

  passed_test_replaced : (p : Location) (e : Expr) (f : Forms) (t : Test) → passed_test f (replace_test p e t) ≡ passed_test (put f p (form f e)) t
  passed_test_replaced p e f True = refl
  passed_test_replaced p e f (Not c) = failed_replaced p e f c
  passed_test_replaced p e f (Comparison op a b) = ap₂ (true_comparison op) (form_replace p e f a) (form_replace p e f b)

  failed_test_replaced : (p : Location) (e : Expr) (f : Forms) (t : Test) → failed_test f (replace_test p e t) ≡ failed_test (put f p (form f e)) t
  failed_test_replaced p e f True = refl
  failed_test_replaced p e f (Not c) = passed_replaced p e f c
  failed_test_replaced p e f (Comparison op a b) =
      ap₂ (λ (x y : Linear). false_comparison op (int_lt x.constant y.constant) x y) (form_replace p e f a) (form_replace p e f b)

  passed_replaced : (p : Location) (e : Expr) (f : Forms) (c : Cond) → passed f (replace_cond p e c) ≡ passed (put f p (form f e)) c
  passed_replaced p e f NoTest = refl
  passed_replaced p e f (MoreTest t c) = ap₂ ◌++◌ (passed_test_replaced p e f t) (passed_replaced p e f c)

  failed_replaced : (p : Location) (e : Expr) (f : Forms) (c : Cond) → failed f (replace_cond p e c) ≡ failed (put f p (form f e)) c
  failed_replaced p e f NoTest = refl
  failed_replaced p e f (MoreTest t c) =
      ap (λ b. cond b (failed f (replace_cond p e c)) (failed_test f (replace_test p e t))) (passes_replaced p e f t)
      ∙ ap₂ (cond (passes_by (put f p (form f e)) t)) (failed_replaced p e f c) (failed_test_replaced p e f t)

-- ---- the literal 0 in place of the temporaries
module _ (base : ℕ → ℤ) where
  abbrev f : Forms
  f = base_forms base

  mutual
    unfolding definitions plan_definitions meaning_definitions

    passes_cleared : (t : Test) → passes_by f (clear_test t) ≡ passes_by f t
    passes_cleared True = refl
    passes_cleared (Not c) = ap not (holds_cleared c)
    passes_cleared (Comparison op a b) = ap₂ (λ (x y : Linear). compared op x.constant y.constant) (form_clear base a) (form_clear base b)

    holds_cleared : (c : Cond) → holds_by f (clear_cond c) ≡ holds_by f c
    holds_cleared NoTest = refl
    holds_cleared (MoreTest t c) = ap₂ ◌&&◌ (passes_cleared t) (holds_cleared c)

  mutual
    unfolding definitions plan_definitions meaning_definitions

    passed_test_cleared : (t : Test) → passed_test f (clear_test t) ≡ passed_test f t
    passed_test_cleared True = refl
    passed_test_cleared (Not c) = failed_cleared c
    passed_test_cleared (Comparison op a b) = ap₂ (true_comparison op) (form_clear base a) (form_clear base b)

    failed_test_cleared : (t : Test) → failed_test f (clear_test t) ≡ failed_test f t
    failed_test_cleared True = refl
    failed_test_cleared (Not c) = passed_cleared c
    failed_test_cleared (Comparison op a b) =
        ap₂ (λ (x y : Linear). false_comparison op (int_lt x.constant y.constant) x y) (form_clear base a) (form_clear base b)

    passed_cleared : (c : Cond) → passed f (clear_cond c) ≡ passed f c
    passed_cleared NoTest = refl
    passed_cleared (MoreTest t c) = ap₂ ◌++◌ (passed_test_cleared t) (passed_cleared c)

    failed_cleared : (c : Cond) → failed f (clear_cond c) ≡ failed f c
    failed_cleared NoTest = refl
    failed_cleared (MoreTest t c) =
        ap (λ b. cond b (failed f (clear_cond c)) (failed_test f (clear_test t))) (passes_cleared t)
        ∙ ap₂ (cond (passes_by f t)) (failed_cleared c) (failed_test_cleared t)

  -- ---- the atoms of a formula at the base
  pub at_base : whole base ≡ constants f
  unfolding plan_definitions meaning_definitions
  at_base = fun_ext at
    where
      at : (p : Location) → whole base p ≡ constants f p
      at (TempAt t) = refl
      at (BaseAt x) = refl
      at (DeltaAt x j) = refl

  value_at_base : (e : Expr) → value e (whole base) ≡ (form f e).constant
  value_at_base e = ap (value e) at_base ∙ value_constant f e

  pub holds_at_base : (c : Cond) → holds c (whole base) ≡ holds_by f c
  holds_at_base c = ap (holds c) at_base ∙ holds_constant f c

  passes_at_base : (t : Test) → passes t (whole base) ≡ passes_by f t
  passes_at_base t = ap (passes t) at_base ∙ passes_constant f t

  mutual
    unfolding definitions plan_definitions meaning_definitions

    passed_test_is : (t : Test) → true_test base t ≡ passed_test f t
    passed_test_is True = refl
    passed_test_is (Not c) = failed_is c
    passed_test_is (Comparison op a b) = refl

    failed_test_is : (t : Test) → false_test base t ≡ failed_test f t
    failed_test_is True = refl
    failed_test_is (Not c) = passed_is c
    failed_test_is (Comparison op a b) =
        ap₂ (λ m n. false_comparison op (int_lt m n) (form f a) (form f b)) (value_at_base a) (value_at_base b)

    pub passed_is : (c : Cond) → true_cond base c ≡ passed f c
    passed_is NoTest = refl
    passed_is (MoreTest t c) = ap₂ ◌++◌ (passed_test_is t) (passed_is c)

    failed_is : (c : Cond) → false_cond base c ≡ failed f c
    failed_is NoTest = refl
    failed_is (MoreTest t c) =
        ap (λ b. cond b (false_cond base c) (false_test base t)) (passes_at_base t)
        ∙ ap₂ (cond (passes_by f t)) (failed_is c) (failed_test_is t)

-- ---- along the row
passed_both : (f : Forms) (b c : Cond) → passed f (both b c) ≡ passed f b ++ passed f c
unfolding definitions plan_definitions
passed_both f NoTest c = refl
passed_both f (MoreTest t b) c = ap (λ l. passed_test f t ++ l) (passed_both f b c) ∙ sym (append_assoc (passed_test f t) (passed f b) (passed f c))

mutual
  unfolding definitions plan_definitions meaning_definitions

  -- the atoms of a row that is walked from the forms f: those of the command, and then of what is behind it
  pub walked : (c : Command) (f : Forms) (r : Row) → passed f (walk_before c (constants f) r).formula ≡ (follow c f).atoms ++ passed (follow c f).forms r.formula
  walked Skip f r = refl
  walked (Assign t e) f r = passed_replaced (TempAt t) e f r.formula
  walked (Write x e) f r = passed_replaced (location_of x) e f r.formula
  walked (Print e) f r = refl
  walked (Seq cs) f r = walked_all cs f r
  walked (If b c d) f r = go (holds b (constants f)) (holds_by f b) (holds_constant f b) (walked c f r) (walked d f r)
    where
      go :
          (u v : Bool) → u ≡ v →
          passed f (walk_before c (constants f) r).formula ≡ (follow c f).atoms ++ passed (follow c f).forms r.formula →
          passed f (walk_before d (constants f) r).formula ≡ (follow d f).atoms ++ passed (follow d f).forms r.formula →
          passed f (cond u (test_before b (walk_before c (constants f) r)) (test_before (otherwise b) (walk_before d (constants f) r))).formula ≡
          (cond v (asked (passed f b) (follow c f)) (asked (failed f b) (follow d f))).atoms ++
          passed (cond v (asked (passed f b) (follow c f)) (asked (failed f b) (follow d f))).forms r.formula
      go true true e x y =
          passed_both f b (walk_before c (constants f) r).formula ∙ ap (λ l. passed f b ++ l) x
          ∙ sym (append_assoc (passed f b) (follow c f).atoms (passed (follow c f).forms r.formula))
      go true false e x y = cc
      go false true e x y = cc
      go false false e x y =
          ap (λ l. failed f b ++ l) y ∙ sym (append_assoc (failed f b) (follow d f).atoms (passed (follow d f).forms r.formula))

  pub walked_all :
      (cs : Commands) (f : Forms) (r : Row) → passed f (walk_all_before cs (constants f) r).formula ≡
      (follow_all cs f).atoms ++ passed (follow_all cs f).forms r.formula
  walked_all NoCommand f r = refl
  walked_all (MoreCommand c cs) f r =
      let g : Forms = (follow c f).forms in
      walked c f (walk_all_before cs (exec c (constants f)).state r)
      ∙ ap (λ s. (follow c f).atoms ++ passed g (walk_all_before cs s r).formula) (state_after c f)
      ∙ ap (λ l. (follow c f).atoms ++ l) (walked_all cs g r)
      ∙ sym (append_assoc (follow c f).atoms (follow_all cs g).atoms (passed (follow_all cs g).forms r.formula))

-- the atoms at a base of the row that is walked there
pub walked_atoms : (base : ℕ → ℤ) (c : Command) → true_cond base (walk c (whole base)).formula ≡ (follow c (base_forms base)).atoms
unfolding definitions plan_definitions meaning_definitions
walked_atoms base c =
    passed_is base (clear_cond (walk_before c (whole base) last_row).formula)
    ∙ passed_cleared base (walk_before c (whole base) last_row).formula
    ∙ ap (λ s. passed (base_forms base) (walk_before c s last_row).formula) (at_base base)
    ∙ walked c (base_forms base) last_row
    ∙ append-nil (follow c (base_forms base)).atoms
