-- Whether each number that a run over split names meets is at most b in size, with the partial sums and products from left to right: of a
-- choice only the branch that is taken, and of a condition only the tests up to the first that fails.
use Rattle.std.specs.Prelude.{ℕ, ◌*◌, ◌^◌, ℤ, pos, ◌+ℤ◌, ◌*ℤ◌, neg_ℤ, Bool, true, cond, ◌&&◌}
use Rattle.homeo_syntax.specs.Low.{Expr, Exprs, Literal, OfTemp, Read, Sum, Product, Neg, NoExpr, MoreExpr, Test, Cond, True, Not, Comparison, NoTest, MoreTest, Command, Commands, Skip, Assign, Write, Print, Seq, If, NoCommand, MoreCommand}
use Rattle.homeo_meaning.specs.Small.{is_small}
use Rattle.homeo_meaning.specs.LowMeaning.{State, TempAt, location_of, value, passes, holds, exec}
use Rattle.homeo_split.specs.Key.{definitions}

-- the most that a value of a run may be in size
abbrev pub run_limit : ℕ
run_limit = 2 * 10 ^ 18

abbrev mutual
  unfolding definitions

  pub expr_fits : ℕ → Expr → State → Bool
  expr_fits b (Literal n) s = is_small b n
  expr_fits b (OfTemp t) s = is_small b (s (TempAt t))
  expr_fits b (Read x) s = is_small b (s (location_of x))
  expr_fits b (Sum es) s = sum_fits b (pos 0) es s
  expr_fits b (Product es) s = product_fits b (pos 1) es s
  expr_fits b (Neg e) s = expr_fits b e s && is_small b (neg_ℤ (value e s))

  -- n and the terms
  pub sum_fits : ℕ → ℤ → Exprs → State → Bool
  sum_fits b n NoExpr s = is_small b n
  sum_fits b n (MoreExpr e es) s = is_small b n && (expr_fits b e s && sum_fits b (n +ℤ value e s) es s)

  -- n and the factors
  pub product_fits : ℕ → ℤ → Exprs → State → Bool
  product_fits b n NoExpr s = is_small b n
  product_fits b n (MoreExpr e es) s = is_small b n && (expr_fits b e s && product_fits b (n *ℤ value e s) es s)

abbrev mutual
  unfolding definitions

  pub test_fits : ℕ → Test → State → Bool
  test_fits b True s = true
  test_fits b (Not c) s = cond_fits b c s
  test_fits b (Comparison op l r) s = expr_fits b l s && expr_fits b r s

  pub cond_fits : ℕ → Cond → State → Bool
  cond_fits b NoTest s = true
  cond_fits b (MoreTest t c) s = test_fits b t s && cond (passes t s) (cond_fits b c s) true

abbrev mutual
  unfolding definitions

  pub can_exec : ℕ → Command → State → Bool
  can_exec b Skip s = true
  can_exec b (Assign t e) s = expr_fits b e s
  can_exec b (Write x e) s = expr_fits b e s
  can_exec b (Print e) s = expr_fits b e s
  can_exec b (Seq cs) s = can_exec_all b cs s
  can_exec b (If t c d) s = cond_fits b t s && cond (holds t s) (can_exec b c s) (can_exec b d s)

  pub can_exec_all : ℕ → Commands → State → Bool
  can_exec_all b NoCommand s = true
  can_exec_all b (MoreCommand c cs) s = can_exec b c s && can_exec_all b cs (exec c s).state
