-- An object at two sites, and sums of two and three terms.
use Rattle.homeo_syntax.specs.declared.low.SplitName.TheVariants.{Base, Delta}
use Rattle.homeo_syntax.specs.Low.{Expr, Read, Sum, NoExpr, MoreExpr}

abbrev pub pair_of : Expr → Expr → Expr
pair_of a b = Sum (MoreExpr a (MoreExpr b NoExpr))

abbrev pub sum_of : Expr → Expr → Expr → Expr
sum_of a b c = Sum (MoreExpr a (MoreExpr b (MoreExpr c NoExpr)))

-- the base and the deltas of both sites added up
abbrev pub object_sum : Expr
object_sum = sum_of (Read (Base 0)) (Read (Delta 0 0)) (Read (Delta 0 1))
