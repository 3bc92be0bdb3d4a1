-- The numbers that are met where forms are made: each constant and each factor, with partial sums and products from left to
-- right.
use Rattle.std.specs.Prelude.{List, [], ◌∷◌, ◌++◌, map, ℤ, pos, cond}
use Rattle.homeo_syntax.specs.Low.{Expr, Exprs, Literal, OfTemp, Read, Sum, Product, Neg, NoExpr, MoreExpr, Test, Cond, True, Not, Comparison, NoTest, MoreTest}
use Rattle.homeo_meaning.specs.LowMeaning.{TempAt, State, location_of, passes}
use Rattle.homeo_plan.specs.Linear.{Linear, constant_form, add_forms, multiply_forms, Forms, form}
use Rattle.homeo_certificate.specs.Key.{definitions}

-- the constant and the factors of a form
abbrev pub numbers : Linear → List ℤ
numbers a = a.constant ∷ map (λ t. t.factor) a.terms

-- the values that forms have where all deltas are 0
abbrev pub at_zero : Forms → State
at_zero f p = (f p).constant

abbrev mutual
  unfolding definitions

  -- in the form of an expression, where f has the forms so far
  pub met : Forms → Expr → List ℤ
  met f (Literal n) = n ∷ []
  met f (OfTemp t) = numbers (f (TempAt t))
  met f (Read x) = numbers (f (location_of x))
  met f (Sum es) = met_in_sum f (constant_form (pos 0)) es
  met f (Product es) = met_in_product f (constant_form (pos 1)) es
  met f (Neg e) = met f e

  -- in the sum of a and the terms' forms
  pub met_in_sum : Forms → Linear → Exprs → List ℤ
  met_in_sum f a NoExpr = numbers a
  met_in_sum f a (MoreExpr e es) = numbers a ++ (met f e ++ met_in_sum f (add_forms (form f e) a) es)

  -- in the product of a and the factors' forms
  pub met_in_product : Forms → Linear → Exprs → List ℤ
  met_in_product f a NoExpr = numbers a
  met_in_product f a (MoreExpr e es) = numbers a ++ (met f e ++ met_in_product f (multiply_forms a (form f e)) es)

abbrev mutual
  unfolding definitions

  -- in a condition's tests, up to the first that is false where all deltas are 0
  pub met_in_test : Forms → Test → List ℤ
  met_in_test f True = []
  met_in_test f (Not c) = met_in_cond f c
  met_in_test f (Comparison op a b) = met f a ++ met f b

  pub met_in_cond : Forms → Cond → List ℤ
  met_in_cond f NoTest = []
  met_in_cond f (MoreTest t c) = met_in_test f t ++ cond (passes t (at_zero f)) (met_in_cond f c) []
