-- A property of the numbers that follows from another.
use Rattle.homeo_plan.specs.Key.{definitions}
use Rattle.homeo_meaning.specs.Key.{definitions as meaning_definitions}
use Rattle.std.proofs.Common.{ℕ, ◌≤◌, List, [], ◌∷◌, ℤ, pos, arith}
use Rattle.homeo_syntax.specs.Low.{Expr, Exprs, Literal, OfTemp, Read, Sum, Product, Neg, NoExpr, MoreExpr, Test, Cond, True, Not, Comparison, NoTest, MoreTest, Commands, Skip, Assign, Write, Print, Seq, If, NoCommand, MoreCommand}
use Rattle.homeo_meaning.specs.LowMeaning.{TempAt, location_of, put}
use Rattle.homeo_meaning.specs.Small.{IsSmall}
use Rattle.homeo_plan.specs.Each.{Each}
use Rattle.homeo_plan.specs.Table.{Row}
use Rattle.homeo_plan.specs.declared.forms.Term.{Term}
use Rattle.homeo_plan.specs.Linear.{Linear, constant_form, add_forms, multiply_forms, Forms, form}
use Rattle.homeo_plan.specs.FormSizes.{Numbers, CanForm, CanSum, CanProduct, CanSubtract, CanTest, CanCond, CanFollow}
use Rattle.homeo_plan.specs.SmallForms.{HasSmallForms}

module _ (P Q : ℤ → Type 0) (q : (z : ℤ) → P z → Q z) where
  each_wider : (ts : List Term) → Each (λ t. P t.factor) ts → Each (λ t. Q t.factor) ts
  unfolding definitions
  each_wider [] h = tt
  each_wider (t ∷ ts) h = (q t.factor h.0, each_wider ts h.1)

  numbers_wider : (a : Linear) → Numbers P a → Numbers Q a
  numbers_wider a h = record { constant = q a.constant h.constant; factors = each_wider a.terms h.factors }

  mutual
    unfolding definitions

    form_wider : (f : Forms) (e : Expr) → CanForm P f e → CanForm Q f e
    form_wider f (Literal n) h = numbers_wider _ h
    form_wider f (OfTemp t) h = numbers_wider _ h
    form_wider f (Read x) h = numbers_wider _ h
    form_wider f (Sum es) h = sum_wider f (constant_form (pos 0)) es h
    form_wider f (Product es) h = product_wider f (constant_form (pos 1)) es h
    form_wider f (Neg e) h = (form_wider f e h.0, numbers_wider _ h.1)

    sum_wider : (f : Forms) (a : Linear) (es : Exprs) → CanSum P f a es → CanSum Q f a es
    sum_wider f a NoExpr h = numbers_wider a h
    sum_wider f a (MoreExpr e es) h = (numbers_wider a h.0, form_wider f e h.1, sum_wider f (add_forms (form f e) a) es h.2)

    product_wider : (f : Forms) (a : Linear) (es : Exprs) → CanProduct P f a es → CanProduct Q f a es
    product_wider f a NoExpr h = numbers_wider a h
    product_wider f a (MoreExpr e es) h =
        (numbers_wider a h.0, form_wider f e h.1, product_wider f (multiply_forms a (form f e)) es h.2)

  subtract_wider : (a b : Linear) → CanSubtract P a b → CanSubtract Q a b
  subtract_wider a b h =
      record { negated = numbers_wider _ h.negated; apart = numbers_wider _ h.apart; or_less = numbers_wider _ h.or_less; more = numbers_wider _ h.more }

  mutual
    unfolding definitions

    test_wider : (f : Forms) (t : Test) → CanTest P f t → CanTest Q f t
    test_wider f True h = tt
    test_wider f (Not c) h = cond_wider f c h
    test_wider f (Comparison op x y) h =
        (form_wider f x h.0, form_wider f y h.1, subtract_wider _ _ h.2, subtract_wider _ _ h.3)

    cond_wider : (f : Forms) (c : Cond) → CanCond P f c → CanCond Q f c
    cond_wider f NoTest h = tt
    cond_wider f (MoreTest t c) h = (test_wider f t h.0, cond_wider f c h.1)

  follow_wider : (f : Forms) (cs : Commands) → CanFollow P f cs → CanFollow Q f cs
  unfolding definitions
  follow_wider f NoCommand h = tt
  follow_wider f (MoreCommand Skip cs) h = follow_wider f cs h
  follow_wider f (MoreCommand (Assign t e) cs) h =
      (form_wider f e h.0, follow_wider (put f (TempAt t) (form f e)) cs h.1)
  follow_wider f (MoreCommand (Write x e) cs) h =
      (form_wider f e h.0, follow_wider (put f (location_of x) (form f e)) cs h.1)
  follow_wider f (MoreCommand (Print e) cs) h = (form_wider f e h.0, follow_wider f cs h.1)
  follow_wider f (MoreCommand (Seq ds) cs) h = follow_wider f cs h
  follow_wider f (MoreCommand (If b c d) cs) h = follow_wider f cs h

  atoms_wider : (xs : List Linear) → Each (Numbers P) xs → Each (Numbers Q) xs
  unfolding definitions
  atoms_wider [] h = tt
  atoms_wider (a ∷ xs) h = (numbers_wider a h.0, atoms_wider xs h.1)

pub wider_forms : (m n : ℕ) (base : ℕ → ℤ) (row : Row) → n ≤ m → HasSmallForms n base row → HasSmallForms m base row
unfolding meaning_definitions
wider_forms m n base row l h =
    let q : (z : ℤ) → IsSmall n z → IsSmall m z = λ z k. omega (arith, l, k) in
    record {
      formula = cond_wider (IsSmall n) (IsSmall m) q _ row.formula h.formula;
      atoms = atoms_wider (IsSmall n) (IsSmall m) q _ h.atoms;
      residual = follow_wider (IsSmall n) (IsSmall m) q _ row.residual h.residual;
    }
