-- The rows of commands in shape are in shape, and so the deltas of their atoms and needs are there.
use Rattle.homeo_meaning.specs.Key.{definitions as meaning_definitions}
use Rattle.homeo_plan.specs.Key.{definitions as plan_definitions}
use Rattle.homeo_plan.proofs.Atoms.{append_each, each_true, each_false}
use Rattle.homeo_plan.proofs.DeltaLists.{each_puts}
use Rattle.homeo_certificate.specs.Key.{definitions}
use Rattle.std.proofs.Common.{◌≡◌, ℕ, suc, ◌==◌, ◌<◌, ◌^◌, Bool, true, false, cond, List, [], ◌∷◌, ℤ, pos, negsuc, refl, sym, ap, subst}
use Rattle.homeo_syntax.specs.declared.low.SplitName.{SplitName}
use Rattle.homeo_syntax.specs.declared.low.SplitName.TheVariants as split
use Rattle.homeo_syntax.specs.Low.{Expr, Exprs, Literal, OfTemp, Read, Sum, Product, Neg, NoExpr, MoreExpr, Test, Cond, True, Not, Comparison, NoTest, MoreTest, Command, Commands, Skip, Assign, Write, Print, Seq, If, NoCommand, MoreCommand}
use Rattle.homeo_meaning.specs.LowMeaning.{Location, TempAt, DeltaAt, State, location_of, same_location, put, passes, holds, exec, whole}
use Rattle.homeo_plan.specs.Each.{Each}
use Rattle.homeo_plan.specs.declared.forms.Delta.{Delta}
use Rattle.homeo_plan.specs.Linear.{delta_of, Linear, constant_form, add_forms, scale_form, support, Forms, base_forms, form}
use Rattle.homeo_plan.specs.Atoms.{difference, true_test, false_test, true_cond, false_cond}
use Rattle.homeo_plan.specs.Needs.{remote, written_needs, add_written, needs_from}
use Rattle.homeo_plan.specs.Table.{Row, replace, replace_all, replace_test, replace_cond, both, otherwise, test_before, clear, clear_all, clear_test, clear_cond, last_row, walk_before, walk_all_before, walk}
use Rattle.homeo_certificate.specs.Nodes.{expr_count, test_count}
use Rattle.homeo_certificate.specs.Shape.{DeltaInShape, TargetInShape, IsWord, ExprInShape, ExprsInShape, TestInShape, CondInShape, CommandInShape, CommandsInShape}
use Rattle.homeo_certified.proofs.FormedForms.{Formed, formed_constant, formed_add, formed_scale, formed_support, AllFormed, base_formed, put_formed, expr_formed}

module _ (n k : ℕ) where
  -- ---- expressions in others
  count_replace : (p : Location) (e : Expr) (es : Exprs) → expr_count (replace_all p e es) ≡ expr_count es
  unfolding definitions plan_definitions
  count_replace p e NoExpr = refl
  count_replace p e (MoreExpr a es) = ap suc (count_replace p e es)

  tests_replace : (p : Location) (e : Expr) (c : Cond) → test_count (replace_cond p e c) ≡ test_count c
  unfolding definitions plan_definitions
  tests_replace p e NoTest = refl
  tests_replace p e (MoreTest t c) = ap suc (tests_replace p e c)

  count_clear : (es : Exprs) → expr_count (clear_all es) ≡ expr_count es
  unfolding definitions plan_definitions
  count_clear NoExpr = refl
  count_clear (MoreExpr a es) = ap suc (count_clear es)

  tests_clear : (c : Cond) → test_count (clear_cond c) ≡ test_count c
  unfolding definitions plan_definitions
  tests_clear NoTest = refl
  tests_clear (MoreTest t c) = ap suc (tests_clear c)

  choose : (v : Bool) (e a : Expr) → ExprInShape n k e → ExprInShape n k a → ExprInShape n k (cond v e a)
  choose true e a h g = h
  choose false e a h g = g

  module _ (p : Location) (e : Expr) (h : ExprInShape n k e) where
    mutual
      unfolding definitions plan_definitions

      replaced : (a : Expr) → ExprInShape n k a → ExprInShape n k (replace p e a)
      replaced (Literal m) g = g
      replaced (OfTemp t) g = choose (same_location p (TempAt t)) e (OfTemp t) h g
      replaced (Read x) g = choose (same_location p (location_of x)) e (Read x) h g
      replaced (Sum es) g = (subst (λ c. c < 2 ^ 63) (sym (count_replace p e es)) g.0, all_replaced es g.1)
      replaced (Product es) g = (subst (λ c. c < 2 ^ 63) (sym (count_replace p e es)) g.0, all_replaced es g.1)
      replaced (Neg a) g = replaced a g

      all_replaced : (es : Exprs) → ExprsInShape n k es → ExprsInShape n k (replace_all p e es)
      all_replaced NoExpr g = tt
      all_replaced (MoreExpr a es) g = (replaced a g.0, all_replaced es g.1)

    mutual
      unfolding definitions plan_definitions

      test_replaced : (t : Test) → TestInShape n k t → TestInShape n k (replace_test p e t)
      test_replaced True g = tt
      test_replaced (Not c) g = (subst (λ m. m < 2 ^ 63) (sym (tests_replace p e c)) g.0, cond_replaced c g.1)
      test_replaced (Comparison op a b) g = (replaced a g.0, replaced b g.1)

      cond_replaced : (c : Cond) → CondInShape n k c → CondInShape n k (replace_cond p e c)
      cond_replaced NoTest g = tt
      cond_replaced (MoreTest t c) g = (test_replaced t g.0, cond_replaced c g.1)

  zero_is_word : IsWord (pos 0)
  zero_is_word = record { low = refl; high = refl }

  mutual
    unfolding definitions plan_definitions

    cleared : (a : Expr) → ExprInShape n k a → ExprInShape n k (clear a)
    cleared (Literal m) g = g
    cleared (OfTemp t) g = zero_is_word
    cleared (Read x) g = g
    cleared (Sum es) g = (subst (λ c. c < 2 ^ 63) (sym (count_clear es)) g.0, all_cleared es g.1)
    cleared (Product es) g = (subst (λ c. c < 2 ^ 63) (sym (count_clear es)) g.0, all_cleared es g.1)
    cleared (Neg a) g = cleared a g

    all_cleared : (es : Exprs) → ExprsInShape n k es → ExprsInShape n k (clear_all es)
    all_cleared NoExpr g = tt
    all_cleared (MoreExpr a es) g = (cleared a g.0, all_cleared es g.1)

  mutual
    unfolding definitions plan_definitions

    test_cleared : (t : Test) → TestInShape n k t → TestInShape n k (clear_test t)
    test_cleared True g = tt
    test_cleared (Not c) g = (subst (λ m. m < 2 ^ 63) (sym (tests_clear c)) g.0, cond_cleared c g.1)
    test_cleared (Comparison op a b) g = (cleared a g.0, cleared b g.1)

    cond_cleared : (c : Cond) → CondInShape n k c → CondInShape n k (clear_cond c)
    cond_cleared NoTest g = tt
    cond_cleared (MoreTest t c) g = (test_cleared t g.0, cond_cleared c g.1)

  -- ---- rows
  pub record RowInShape (r : Row) : Type 0 where
    pub formula : CondInShape n k r.formula
    pub residual : CommandsInShape n k r.residual

  both_in_shape : (b c : Cond) → CondInShape n k b → CondInShape n k c → CondInShape n k (both b c)
  unfolding definitions plan_definitions
  both_in_shape NoTest c g h = h
  both_in_shape (MoreTest t b) c g h = (g.0, both_in_shape b c g.1 h)

  mutual
    unfolding definitions plan_definitions meaning_definitions

    row_before : (c : Command) (s : State) (r : Row) → CommandInShape n k c → RowInShape r → RowInShape (walk_before c s r)
    row_before Skip s r g h = h
    row_before (Assign t e) s r g h = record { formula = cond_replaced (TempAt t) e g.1 r.formula h.formula; residual = (g, h.residual) }
    row_before (Write x e) s r g h = record { formula = cond_replaced (location_of x) e g.1 r.formula h.formula; residual = (g, h.residual) }
    row_before (Print e) s r g h = record { formula = h.formula; residual = (g, h.residual) }
    row_before (Seq cs) s r g h = row_all_before cs s r g.1 h
    row_before (If b c d) s r g h = go (holds b s) (row_before c s r g.2 h) (row_before d s r g.3 h)
      where
        go :
            (v : Bool) → RowInShape (walk_before c s r) → RowInShape (walk_before d s r) →
            RowInShape (cond v (test_before b (walk_before c s r)) (test_before (otherwise b) (walk_before d s r)))
        go true x y = record { formula = both_in_shape b _ g.1 x.formula; residual = x.residual }
        go false x y = record { formula = ((g.0, g.1), y.formula); residual = y.residual }

    row_all_before : (cs : Commands) (s : State) (r : Row) → CommandsInShape n k cs → RowInShape r → RowInShape (walk_all_before cs s r)
    row_all_before NoCommand s r g h = h
    row_all_before (MoreCommand c cs) s r g h = row_before c s (walk_all_before cs (exec c s).state r) g.0 (row_all_before cs (exec c s).state r g.1 h)

  pub walk_in_shape : (c : Command) (s : State) → CommandInShape n k c → RowInShape (walk c s)
  unfolding definitions plan_definitions
  walk_in_shape c s g =
      let h = row_before c s last_row g (record { formula = tt; residual = tt }) in
      record { formula = cond_cleared (walk_before c s last_row).formula h.formula; residual = h.residual }

  -- ---- atoms

  abbrev pub IsFormed : Linear → Type 0
  IsFormed = Formed (DeltaInShape n k)

  difference_formed : (a b : Linear) (m : ℤ) → IsFormed a → IsFormed b → IsFormed (difference a b m)
  unfolding plan_definitions
  difference_formed a b m h g =
      formed_add (DeltaInShape n k) (constant_form m) (add_forms a (scale_form (negsuc 0) b)) (formed_constant (DeltaInShape n k) m)
      (formed_add (DeltaInShape n k) a (scale_form (negsuc 0) b) h (formed_scale (DeltaInShape n k) (negsuc 0) b g))

  module _ (b : ℕ → ℤ) where
    formed_at : (e : Expr) → ExprInShape n k e → IsFormed (form (base_forms b) e)
    formed_at e s = expr_formed (DeltaInShape n k) n k (λ d h. h) (base_forms b) (base_formed (DeltaInShape n k) n k (λ d h. h) b) e s

    mutual
      unfolding definitions plan_definitions

      true_test_formed : (t : Test) → TestInShape n k t → Each IsFormed (true_test b t)
      true_test_formed True s = tt
      true_test_formed (Not c) s = false_cond_formed c s.1
      true_test_formed (Comparison op x y) s = each_true IsFormed difference_formed op _ _ (formed_at x s.0) (formed_at y s.1)

      false_test_formed : (t : Test) → TestInShape n k t → Each IsFormed (false_test b t)
      false_test_formed True s = tt
      false_test_formed (Not c) s = true_cond_formed c s.1
      false_test_formed (Comparison op x y) s = each_false IsFormed difference_formed op _ _ _ (formed_at x s.0) (formed_at y s.1)

      pub true_cond_formed : (c : Cond) → CondInShape n k c → Each IsFormed (true_cond b c)
      true_cond_formed NoTest s = tt
      true_cond_formed (MoreTest t c) s = append_each IsFormed (true_test b t) (true_cond b c) (true_test_formed t s.0) (true_cond_formed c s.1)

      false_cond_formed : (c : Cond) → CondInShape n k c → Each IsFormed (false_cond b c)
      false_cond_formed NoTest s = tt
      false_cond_formed (MoreTest t c) s = go (passes t (whole b)) (false_cond_formed c s.1) (false_test_formed t s.0)
        where
          go : (v : Bool) → Each IsFormed (false_cond b c) → Each IsFormed (false_test b t) → Each IsFormed (cond v (false_cond b c) (false_test b t))
          go true h g = h
          go false h g = g

  -- ---- needs
  remote_in : (i : ℕ) (ds : List Delta) → Each (DeltaInShape n k) ds → Each (DeltaInShape n k) (remote i ds)
  unfolding plan_definitions
  remote_in i [] h = tt
  remote_in i (d ∷ ds) h = go (d.site == i) (remote_in i ds h.1)
    where
      go : (v : Bool) → Each (DeltaInShape n k) (remote i ds) → Each (DeltaInShape n k) (cond v (remote i ds) (d ∷ remote i ds))
      go true r = r
      go false r = (h.0, r)

  abbrev Made : Forms → Type 0
  Made f = AllFormed (DeltaInShape n k) n k (λ d h. h) f

  support_in : (i : ℕ) (a : Linear) → IsFormed a → Each (DeltaInShape n k) (remote i (support a))
  support_in i a h = remote_in i (support a) (formed_support (DeltaInShape n k) a h)

  written_in : (i : ℕ) (f : Forms) (ds : List Delta) → Made f → Each (DeltaInShape n k) ds → Each (DeltaInShape n k) (written_needs i f ds)
  unfolding plan_definitions
  written_in i f [] h g = tt
  written_in i f (d ∷ ds) h g =
      each_puts (DeltaInShape n k) (remote i (support (f (DeltaAt d.object d.site)))) (written_needs i f ds)
      (support_in i (f (DeltaAt d.object d.site)) (h (DeltaAt d.object d.site) (g.0.object, g.0.site))) (written_in i f ds h g.1)

  target_in : (x : SplitName) (ds : List Delta) → TargetInShape n k x → Each (DeltaInShape n k) ds → Each (DeltaInShape n k) (add_written x ds)
  unfolding definitions plan_definitions
  target_in (split.Whole x) ds t h = absurd t
  target_in (split.Base x) ds t h = absurd t
  target_in (split.Delta x j) ds t h = each_puts (DeltaInShape n k) (delta_of x j ∷ []) ds (record { object = t.0; site = t.1 }, tt) h

  pub needs_in :
      (i : ℕ) (cs : Commands) (f : Forms) (ds : List Delta) → CommandsInShape n k cs → Made f → Each (DeltaInShape n k) ds →
      Each (DeltaInShape n k) (needs_from i f ds cs)
  unfolding definitions plan_definitions meaning_definitions
  needs_in i NoCommand f ds s h g = written_in i f ds h g
  needs_in i (MoreCommand (Assign t e) cs) f ds s h g =
      needs_in i cs (put f (TempAt t) (form f e)) ds s.1
      (put_formed (DeltaInShape n k) n k (λ d h. h) f (TempAt t) (form f e) h (expr_formed (DeltaInShape n k) n k (λ d h. h) f h e s.0.1)) g
  needs_in i (MoreCommand (Write x e) cs) f ds s h g =
      needs_in i cs (put f (location_of x) (form f e)) (add_written x ds) s.1
      (put_formed (DeltaInShape n k) n k (λ d h. h) f (location_of x) (form f e) h (expr_formed (DeltaInShape n k) n k (λ d h. h) f h e s.0.1))
      (target_in x ds s.0.0 g)
  needs_in i (MoreCommand (Print e) cs) f ds s h g =
      each_puts (DeltaInShape n k) (remote i (support (form f e))) (needs_from i f ds cs)
      (support_in i (form f e) (expr_formed (DeltaInShape n k) n k (λ d h. h) f h e s.0)) (needs_in i cs f ds s.1 h g)
  needs_in i (MoreCommand Skip cs) f ds s h g = needs_in i cs f ds s.1 h g
  needs_in i (MoreCommand (Seq c) cs) f ds s h g = needs_in i cs f ds s.1 h g
  needs_in i (MoreCommand (If b c d) cs) f ds s h g = needs_in i cs f ds s.1 h g
