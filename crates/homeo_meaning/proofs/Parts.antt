-- What holds of the parts of a command that names whole objects only, and of one that names only what there is.
use Rattle.std.proofs.Common.{ℕ}
use Rattle.homeo_syntax.specs.Low.{Expr, Exprs, Test, Cond, Commands}
use Rattle.homeo_meaning.specs.Everywhere.{EverywhereInExpr, EverywhereInExprs, EverywhereInTest, EverywhereInCond, EverywhereInAll}
use Rattle.homeo_meaning.specs.NamesWithin.{ObjectWithin, TempWithin}
use Rattle.homeo_meaning.specs.Whole.{IsWholeName, AnyTemp}

abbrev pub IsWholeExpr : Expr → Type 0
IsWholeExpr = EverywhereInExpr IsWholeName AnyTemp

abbrev pub AreWholeExprs : Exprs → Type 0
AreWholeExprs = EverywhereInExprs IsWholeName AnyTemp

abbrev pub IsWholeTest : Test → Type 0
IsWholeTest = EverywhereInTest IsWholeName AnyTemp

abbrev pub IsWholeCond : Cond → Type 0
IsWholeCond = EverywhereInCond IsWholeName AnyTemp

abbrev pub AreWhole : Commands → Type 0
AreWhole = EverywhereInAll IsWholeName AnyTemp

module _ (objects names : ℕ) where
  abbrev pub ExprWithin : Expr → Type 0
  ExprWithin = EverywhereInExpr (ObjectWithin objects names) (TempWithin objects names)

  abbrev pub ExprsWithin : Exprs → Type 0
  ExprsWithin = EverywhereInExprs (ObjectWithin objects names) (TempWithin objects names)

  abbrev pub TestWithin : Test → Type 0
  TestWithin = EverywhereInTest (ObjectWithin objects names) (TempWithin objects names)

  abbrev pub CondWithin : Cond → Type 0
  CondWithin = EverywhereInCond (ObjectWithin objects names) (TempWithin objects names)

  abbrev pub AllNamesWithin : Commands → Type 0
  AllNamesWithin = EverywhereInAll (ObjectWithin objects names) (TempWithin objects names)
