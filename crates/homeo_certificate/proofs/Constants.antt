-- The constant of a form is the expression's value where all deltas are 0.
use Rattle.homeo_meaning.specs.Key.{definitions as meaning_definitions}
use Rattle.homeo_plan.specs.Key.{definitions as plan_definitions}
use Rattle.std.proofs.Common.{◌≡◌, Bool, true, false, cond, ℤ, pos, negsuc, ◌+ℤ◌, ◌*ℤ◌, neg_ℤ, refl, ap, ◌∙◌, arith}
use Rattle.std.proofs.lemmas.Int.{ints}
use Rattle.homeo_lemmas.proofs.Integers.{plus_turned}
use Rattle.homeo_syntax.specs.Low.{Expr, Exprs, Literal, OfTemp, Read, Sum, Product, Neg, NoExpr, MoreExpr}
use Rattle.homeo_meaning.specs.LowMeaning.{value, sum_value, product_value}
use Rattle.homeo_plan.specs.Linear.{Linear, constant_form, add_forms, scale_form, is_pure, mix_forms, multiply_forms, Forms, form, sum_form, product_form}
use Rattle.homeo_plan.proofs.WholeNumbers.{mul_comm_z}
use Rattle.homeo_certificate.specs.Met.{at_zero}

product_constant : (a b : Linear) → (multiply_forms a b).constant ≡ a.constant *ℤ b.constant
unfolding plan_definitions
product_constant a b = go (is_pure a) (is_pure b)
  where
    go :
        (v w : Bool) → (cond v (scale_form a.constant b) (cond w (scale_form b.constant a) (mix_forms a b))).constant ≡
        a.constant *ℤ b.constant
    go true w = refl
    go false true = mul_comm_z b.constant a.constant
    go false false = refl

minus_one : (x : ℤ) → negsuc 0 *ℤ x ≡ neg_ℤ x
minus_one x = omega (arith, ints)

module _ (f : Forms) where
  mutual
    unfolding plan_definitions meaning_definitions

    pub constant_is : (e : Expr) → (form f e).constant ≡ value e (at_zero f)
    constant_is (Literal n) = refl
    constant_is (OfTemp t) = refl
    constant_is (Read x) = refl
    constant_is (Sum es) = sum_constant es (constant_form (pos 0))
    constant_is (Product es) = product_is es (constant_form (pos 1))
    constant_is (Neg e) = minus_one (form f e).constant ∙ ap neg_ℤ (constant_is e)

    sum_constant : (es : Exprs) (a : Linear) → (sum_form f a es).constant ≡ sum_value a.constant es (at_zero f)
    sum_constant NoExpr a = refl
    sum_constant (MoreExpr e es) a =
        sum_constant es (add_forms (form f e) a)
        ∙ ap (λ n. sum_value n es (at_zero f)) (plus_turned (form f e).constant a.constant ∙ ap (λ n. a.constant +ℤ n) (constant_is e))

    product_is : (es : Exprs) (a : Linear) → (product_form f a es).constant ≡ product_value a.constant es (at_zero f)
    product_is NoExpr a = refl
    product_is (MoreExpr e es) a =
        product_is es (multiply_forms a (form f e))
        ∙ ap (λ n. product_value n es (at_zero f))
        (product_constant a (form f e) ∙ ap (λ n. a.constant *ℤ n) (constant_is e))
