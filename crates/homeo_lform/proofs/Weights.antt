-- Where each name weighs at least 1, so does each expression.
use Rattle.std.proofs.Common.{ℕ, ◌≤◌, arith}
use Rattle.homeo_lemmas.proofs.Naturals.{product_positive}
use Rattle.homeo_syntax.specs.Low.{Expr, Exprs, Literal, OfTemp, Read, Sum, Product, Neg, NoExpr, MoreExpr}
use Rattle.homeo_meaning.specs.Key.{definitions}
use Rattle.homeo_meaning.specs.LowMeaning.{Location, TempAt, location_of}
use Rattle.homeo_meaning.specs.LowWeights.{weight, product_weight}

module _ (w : Location → ℕ) (ones : (p : Location) → 1 ≤ w p) where
  mutual
    unfolding definitions

    pub one_weight : (e : Expr) → 1 ≤ weight e w
    one_weight (Literal n) = omega arith
    one_weight (OfTemp t) = ones (TempAt t)
    one_weight (Read x) = ones (location_of x)
    one_weight (Sum es) = omega arith
    one_weight (Product es) = one_product es
    one_weight (Neg e) = one_weight e

    pub one_product : (es : Exprs) → 1 ≤ product_weight es w
    one_product NoExpr = omega arith
    one_product (MoreExpr e es) = product_positive (weight e w) (product_weight es w) (one_weight e) (one_product es)
