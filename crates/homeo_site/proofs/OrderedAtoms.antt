-- The terms of an atom are in the order of their deltas, each delta once.
use Rattle.std.proofs.Common.{ℕ, Bool, true, false, cond, ℤ, pos, negsuc, int_lt}
use Rattle.homeo_syntax.specs.declared.phrase.Compare.{Compare}
use Rattle.homeo_syntax.specs.declared.phrase.Compare.TheVariants.{Less, LessEqual, Equal}
use Rattle.homeo_syntax.specs.Low.{Expr, Exprs, Literal, OfTemp, Read, Sum, Product, Neg, NoExpr, MoreExpr, Test, Cond, True, Not, Comparison, NoTest, MoreTest}
use Rattle.homeo_meaning.specs.LowMeaning.{Location, TempAt, BaseAt, DeltaAt, location_of, value, passes, whole}
use Rattle.homeo_plan.specs.Key.{definitions as plan_definitions}
use Rattle.homeo_plan.specs.Each.{Each}
use Rattle.homeo_plan.specs.Linear.{Linear, constant_form, add_forms, scale_form, is_pure, mix_forms, multiply_forms, Forms, base_forms, form, sum_form, product_form}
use Rattle.homeo_plan.specs.Atoms.{difference, true_comparison, false_comparison, true_test, false_test, true_cond, false_cond}
use Rattle.homeo_plan.proofs.Atoms.{append_each}
use Rattle.homeo_plan.proofs.Order.{Sorted, sorted_adds, sorted_scale}

-- the form's terms are so
abbrev pub IsOrdered : Linear → Type 0
IsOrdered a = Sorted a.terms

ordered_product : (a b : Linear) → IsOrdered a → IsOrdered b → IsOrdered (multiply_forms a b)
unfolding plan_definitions
ordered_product a b h k = go (is_pure a) (is_pure b)
  where
    go : (v w : Bool) → IsOrdered (cond v (scale_form a.constant b) (cond w (scale_form b.constant a) (mix_forms a b)))
    go true w = sorted_scale a.constant b.terms k
    go false true = sorted_scale b.constant a.terms h
    go false false = tt

module _ (f : Forms) (all : (p : Location) → IsOrdered (f p)) where
  mutual
    unfolding plan_definitions

    ordered_form : (e : Expr) → IsOrdered (form f e)
    ordered_form (Literal n) = tt
    ordered_form (OfTemp t) = all (TempAt t)
    ordered_form (Read x) = all (location_of x)
    ordered_form (Sum es) = ordered_sum (constant_form (pos 0)) es tt
    ordered_form (Product es) = ordered_factors (constant_form (pos 1)) es tt
    ordered_form (Neg e) = sorted_scale (negsuc 0) (form f e).terms (ordered_form e)

    ordered_sum : (a : Linear) (es : Exprs) → IsOrdered a → IsOrdered (sum_form f a es)
    ordered_sum a NoExpr h = h
    ordered_sum a (MoreExpr e es) h = ordered_sum (add_forms (form f e) a) es (sorted_adds (form f e).terms a.terms h)

    ordered_factors : (a : Linear) (es : Exprs) → IsOrdered a → IsOrdered (product_form f a es)
    ordered_factors a NoExpr h = h
    ordered_factors a (MoreExpr e es) h =
        ordered_factors (multiply_forms a (form f e)) es (ordered_product a (form f e) h (ordered_form e))

module _ (b : ℕ → ℤ) where
  ordered_base : (p : Location) → IsOrdered (base_forms b p)
  unfolding plan_definitions
  ordered_base (TempAt t) = tt
  ordered_base (BaseAt x) = tt
  ordered_base (DeltaAt x j) = (tt, tt)

  ordered_at : (e : Expr) → IsOrdered (form (base_forms b) e)
  ordered_at e = ordered_form (base_forms b) ordered_base e

  apart : (x y : Expr) (n : ℤ) → IsOrdered (difference (form (base_forms b) x) (form (base_forms b) y) n)
  unfolding plan_definitions
  apart x y n =
      sorted_adds (form (base_forms b) x).terms (scale_form (negsuc 0) (form (base_forms b) y)).terms
      (sorted_scale (negsuc 0) (form (base_forms b) y).terms (ordered_at y))

  of_true : (op : Compare) (x y : Expr) → Each IsOrdered (true_comparison op (form (base_forms b) x) (form (base_forms b) y))
  unfolding plan_definitions
  of_true Less x y = (apart x y (pos 1), tt)
  of_true LessEqual x y = (apart x y (pos 0), tt)
  of_true Equal x y = (apart x y (pos 0), (apart y x (pos 0), tt))

  of_false :
      (op : Compare) (v : Bool) (x y : Expr) → Each IsOrdered (false_comparison op v (form (base_forms b) x) (form (base_forms b) y))
  unfolding plan_definitions
  of_false Less v x y = (apart y x (pos 0), tt)
  of_false LessEqual v x y = (apart y x (pos 1), tt)
  of_false Equal true x y = (apart x y (pos 1), tt)
  of_false Equal false x y = (apart y x (pos 1), tt)

  mutual
    unfolding plan_definitions

    true_ordered_test : (t : Test) → Each IsOrdered (true_test b t)
    true_ordered_test True = tt
    true_ordered_test (Not c) = false_ordered c
    true_ordered_test (Comparison op x y) = of_true op x y

    false_ordered_test : (t : Test) → Each IsOrdered (false_test b t)
    false_ordered_test True = tt
    false_ordered_test (Not c) = true_ordered c
    false_ordered_test (Comparison op x y) = of_false op (int_lt (value x (whole b)) (value y (whole b))) x y

    pub true_ordered : (c : Cond) → Each IsOrdered (true_cond b c)
    true_ordered NoTest = tt
    true_ordered (MoreTest t c) =
        append_each IsOrdered (true_test b t) (true_cond b c) (true_ordered_test t) (true_ordered c)

    false_ordered : (c : Cond) → Each IsOrdered (false_cond b c)
    false_ordered NoTest = tt
    false_ordered (MoreTest t c) = choose (passes t (whole b)) (false_ordered c) (false_ordered_test t)
      where
        choose : (v : Bool) → Each IsOrdered (false_cond b c) → Each IsOrdered (false_test b t) → Each IsOrdered (cond v (false_cond b c) (false_test b t))
        choose true h k = h
        choose false h k = k
