-- That the numbers of an L form have properties: R each that stands in it or is read, and P each that is computed.
-- In each branch as if it were taken.
use Rattle.std.specs.Prelude.{ℤ, pos, ◌+ℤ◌, ◌*ℤ◌, neg_ℤ}
use Rattle.homeo_syntax.specs.Low.{Expr, Exprs, Literal, OfTemp, Read, Sum, Product, Neg, NoExpr, MoreExpr, Test, Cond, True, Not, Comparison, NoTest, MoreTest, Command, Commands, Skip, Assign, Write, Print, Seq, If, NoCommand, MoreCommand}
use Rattle.homeo_meaning.specs.Key.{definitions}
use Rattle.homeo_meaning.specs.LowMeaning.{TempAt, location_of, State, value, exec}

module _ (R P : ℤ → Type 0) where
  abbrev mutual
    unfolding definitions

    pub CanValue : Expr → State → Type 0
    CanValue (Literal n) s = R n
    CanValue (OfTemp t) s = R (s (TempAt t))
    CanValue (Read x) s = R (s (location_of x))
    CanValue (Sum es) s = CanSum (pos 0) es s
    CanValue (Product es) s = CanProduct (pos 1) es s
    CanValue (Neg e) s = CanValue e s × P (neg_ℤ (value e s))

    pub CanSum : ℤ → Exprs → State → Type 0
    CanSum n NoExpr s = Unit {0}
    CanSum n (MoreExpr e es) s = CanValue e s × P (n +ℤ value e s) × CanSum (n +ℤ value e s) es s

    pub CanProduct : ℤ → Exprs → State → Type 0
    CanProduct n NoExpr s = Unit {0}
    CanProduct n (MoreExpr e es) s = CanValue e s × P (n *ℤ value e s) × CanProduct (n *ℤ value e s) es s

  abbrev mutual
    unfolding definitions

    pub CanPass : Test → State → Type 0
    CanPass True s = Unit {0}
    CanPass (Not c) s = CanHold c s
    CanPass (Comparison op a b) s = CanValue a s × CanValue b s

    pub CanHold : Cond → State → Type 0
    CanHold NoTest s = Unit {0}
    CanHold (MoreTest t c) s = CanPass t s × CanHold c s

  abbrev mutual
    unfolding definitions

    pub CanRun : Command → State → Type 0
    CanRun Skip s = Unit {0}
    CanRun (Assign t e) s = CanValue e s
    CanRun (Write x e) s = CanValue e s
    CanRun (Print e) s = CanValue e s
    CanRun (Seq cs) s = CanRunAll cs s
    CanRun (If b c d) s = CanHold b s × CanRun c s × CanRun d s

    pub CanRunAll : Commands → State → Type 0
    CanRunAll NoCommand s = Unit {0}
    CanRunAll (MoreCommand c cs) s = CanRun c s × CanRunAll cs (exec c s).state
