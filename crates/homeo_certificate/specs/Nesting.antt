-- How deep the nodes of a command nest: a node is open until its last part is read, and one without parts nests 1 deep.
use Rattle.std.specs.Prelude.{ℕ, suc, max}
use Rattle.homeo_syntax.specs.Low.{Expr, Exprs, Literal, OfTemp, Read, Sum, Product, Neg, NoExpr, MoreExpr, Test, Cond, True, Not, Comparison, NoTest, MoreTest, Command, Commands, Skip, Assign, Write, Print, Seq, If, NoCommand, MoreCommand}
use Rattle.homeo_certificate.specs.Key.{definitions}

abbrev mutual
  unfolding definitions

  pub expr_nesting : Expr → ℕ
  expr_nesting (Literal n) = 1
  expr_nesting (OfTemp t) = 1
  expr_nesting (Read x) = 1
  expr_nesting (Sum es) = suc (exprs_nesting es)
  expr_nesting (Product es) = suc (exprs_nesting es)
  expr_nesting (Neg e) = suc (expr_nesting e)

  pub exprs_nesting : Exprs → ℕ
  exprs_nesting NoExpr = 0
  exprs_nesting (MoreExpr e es) = max (expr_nesting e) (exprs_nesting es)

abbrev mutual
  unfolding definitions

  pub test_nesting : Test → ℕ
  test_nesting True = 1
  test_nesting (Not c) = suc (cond_nesting c)
  test_nesting (Comparison op a b) = suc (max (expr_nesting a) (expr_nesting b))

  pub cond_nesting : Cond → ℕ
  cond_nesting NoTest = 0
  cond_nesting (MoreTest t c) = max (test_nesting t) (cond_nesting c)

abbrev mutual
  unfolding definitions

  pub nesting : Command → ℕ
  nesting Skip = 1
  nesting (Assign t e) = suc (expr_nesting e)
  nesting (Write x e) = suc (expr_nesting e)
  nesting (Print e) = suc (expr_nesting e)
  nesting (Seq cs) = suc (all_nesting cs)
  nesting (If b c d) = suc (max (cond_nesting b) (max (nesting c) (nesting d)))

  pub all_nesting : Commands → ℕ
  all_nesting NoCommand = 0
  all_nesting (MoreCommand c cs) = max (nesting c) (all_nesting cs)
