-- Where the numbers on the way to a form are met, so are its own.
use Rattle.std.proofs.Common.{ℤ, pos}
use Rattle.homeo_syntax.specs.Low.{Expr, Exprs, Literal, OfTemp, Read, Sum, Product, Neg, NoExpr, MoreExpr}
use Rattle.homeo_plan.specs.Key.{definitions}
use Rattle.homeo_plan.specs.FormSizes.{Numbers, CanForm, CanSum, CanProduct}
use Rattle.homeo_plan.specs.Linear.{Linear, Forms, constant_form, add_forms, multiply_forms, form, sum_form, product_form}

module _ (P : ℤ → Type 0) (f : Forms) where
  mutual
    unfolding definitions

    pub small_form : (e : Expr) → CanForm P f e → Numbers P (form f e)
    small_form (Literal n) h = h
    small_form (OfTemp t) h = h
    small_form (Read x) h = h
    small_form (Sum es) h = small_sum (constant_form (pos 0)) es h
    small_form (Product es) h = small_product (constant_form (pos 1)) es h
    small_form (Neg e) h = h.1

    small_sum : (a : Linear) (es : Exprs) → CanSum P f a es → Numbers P (sum_form f a es)
    small_sum a NoExpr h = h
    small_sum a (MoreExpr e es) h = small_sum (add_forms (form f e) a) es h.2

    small_product : (a : Linear) (es : Exprs) → CanProduct P f a es → Numbers P (product_form f a es)
    small_product a NoExpr h = h
    small_product a (MoreExpr e es) h = small_product (multiply_forms a (form f e)) es h.2
