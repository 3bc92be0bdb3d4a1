-- Expressions put in for what is read, all at once. A temporary for which there is none is 0, as a call begins with it.
use Rattle.std.specs.Prelude.{Option, pos}
use Rattle.std.specs.Option.{unwrap_or}
use Rattle.homeo_syntax.specs.Low.{Expr, Exprs, Literal, OfTemp, Read, Sum, Product, Neg, NoExpr, MoreExpr, Test, Cond, True, Not, Comparison, NoTest, MoreTest}
use Rattle.homeo_meaning.specs.LowMeaning.{Location, TempAt, location_of}
use Rattle.homeo_substitution.specs.Key.{definitions}

abbrev mutual
  unfolding definitions

  pub substituted : (Location → Option Expr) → Expr → Expr
  substituted s (Literal n) = Literal n
  substituted s (OfTemp t) = unwrap_or (s (TempAt t)) (Literal (pos 0))
  substituted s (Read x) = unwrap_or (s (location_of x)) (Read x)
  substituted s (Sum es) = Sum (substituted_all s es)
  substituted s (Product es) = Product (substituted_all s es)
  substituted s (Neg a) = Neg (substituted s a)

  pub substituted_all : (Location → Option Expr) → Exprs → Exprs
  substituted_all s NoExpr = NoExpr
  substituted_all s (MoreExpr a es) = MoreExpr (substituted s a) (substituted_all s es)

abbrev mutual
  unfolding definitions

  pub substituted_test : (Location → Option Expr) → Test → Test
  substituted_test s True = True
  substituted_test s (Not c) = Not (substituted_cond s c)
  substituted_test s (Comparison op a b) = Comparison op (substituted s a) (substituted s b)

  pub substituted_cond : (Location → Option Expr) → Cond → Cond
  substituted_cond s NoTest = NoTest
  substituted_cond s (MoreTest t c) = MoreTest (substituted_test s t) (substituted_cond s c)
