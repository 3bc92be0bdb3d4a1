-- That P holds of each name of a command, and Q of each of its temporaries, where it is read and where it is written.
use Rattle.homeo_syntax.specs.declared.low.Temp.{Temp}
use Rattle.homeo_syntax.specs.declared.low.SplitName.{SplitName}
use Rattle.homeo_syntax.specs.Low.{Expr, Exprs, Literal, OfTemp, Read, Sum, Product, Neg, NoExpr, MoreExpr, Test, Cond, True, Not, Comparison, NoTest, MoreTest, Command, Commands, Skip, Assign, Write, Print, Seq, If, NoCommand, MoreCommand}
use Rattle.homeo_meaning.specs.Key.{definitions}

module _ (P : SplitName → Type 0) (Q : Temp → Type 0) where
  abbrev mutual
    unfolding definitions

    pub EverywhereInExpr : Expr → Type 0
    EverywhereInExpr (Literal n) = Unit {0}
    EverywhereInExpr (OfTemp t) = Q t
    EverywhereInExpr (Read x) = P x
    EverywhereInExpr (Sum es) = EverywhereInExprs es
    EverywhereInExpr (Product es) = EverywhereInExprs es
    EverywhereInExpr (Neg e) = EverywhereInExpr e

    pub EverywhereInExprs : Exprs → Type 0
    EverywhereInExprs NoExpr = Unit {0}
    EverywhereInExprs (MoreExpr e es) = EverywhereInExpr e × EverywhereInExprs es

  abbrev mutual
    unfolding definitions

    pub EverywhereInTest : Test → Type 0
    EverywhereInTest True = Unit {0}
    EverywhereInTest (Not c) = EverywhereInCond c
    EverywhereInTest (Comparison op a b) = EverywhereInExpr a × EverywhereInExpr b

    pub EverywhereInCond : Cond → Type 0
    EverywhereInCond NoTest = Unit {0}
    EverywhereInCond (MoreTest t c) = EverywhereInTest t × EverywhereInCond c

  abbrev mutual
    unfolding definitions

    pub Everywhere : Command → Type 0
    Everywhere Skip = Unit {0}
    Everywhere (Assign t e) = Q t × EverywhereInExpr e
    Everywhere (Write x e) = P x × EverywhereInExpr e
    Everywhere (Print e) = EverywhereInExpr e
    Everywhere (Seq cs) = EverywhereInAll cs
    Everywhere (If b c d) = EverywhereInCond b × Everywhere c × Everywhere d

    pub EverywhereInAll : Commands → Type 0
    EverywhereInAll NoCommand = Unit {0}
    EverywhereInAll (MoreCommand c cs) = Everywhere c × EverywhereInAll cs
