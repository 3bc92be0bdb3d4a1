-- The objects that a command names, in the order of its text, each as often as it names it.
use Rattle.std.specs.Prelude.{ℕ, List, [], ◌∷◌, ◌++◌}
use Rattle.homeo_syntax.specs.Low.{Expr, Exprs, Literal, OfTemp, Read, Sum, Product, Neg, NoExpr, MoreExpr, Test, Cond, True, Not, Comparison, NoTest, MoreTest, Command, Commands, Skip, Assign, Write, Print, Seq, If, NoCommand, MoreCommand}
use Rattle.homeo_follow.specs.Key.{definitions}
use Rattle.homeo_follow.specs.Follow.{object_of}

abbrev mutual
  unfolding definitions

  pub named_in_expr : Expr → List ℕ
  named_in_expr (Literal n) = []
  named_in_expr (OfTemp t) = []
  named_in_expr (Read x) = object_of x ∷ []
  named_in_expr (Sum es) = named_in_exprs es
  named_in_expr (Product es) = named_in_exprs es
  named_in_expr (Neg e) = named_in_expr e

  pub named_in_exprs : Exprs → List ℕ
  named_in_exprs NoExpr = []
  named_in_exprs (MoreExpr e es) = named_in_expr e ++ named_in_exprs es

abbrev mutual
  unfolding definitions

  pub named_in_test : Test → List ℕ
  named_in_test True = []
  named_in_test (Not c) = named_in_cond c
  named_in_test (Comparison op x y) = named_in_expr x ++ named_in_expr y

  pub named_in_cond : Cond → List ℕ
  named_in_cond NoTest = []
  named_in_cond (MoreTest t c) = named_in_test t ++ named_in_cond c

abbrev mutual
  unfolding definitions

  pub named : Command → List ℕ
  named Skip = []
  named (Assign t e) = named_in_expr e
  named (Write x e) = object_of x ∷ named_in_expr e
  named (Print e) = named_in_expr e
  named (Seq cs) = named_in_all cs
  named (If b c d) = named_in_cond b ++ (named c ++ named d)

  pub named_in_all : Commands → List ℕ
  named_in_all NoCommand = []
  named_in_all (MoreCommand c cs) = named c ++ named_in_all cs
