-- From a row's formula, in which what was set before is put in, back to the forms that stood where its tests are asked.
use Rattle.homeo_meaning.specs.Key.{definitions as meaning_definitions}
use Rattle.homeo_plan.specs.Key.{definitions as plan_definitions}
use Rattle.homeo_certificate.specs.Key.{definitions}
use Rattle.std.proofs.Common.{◌≡◌, ℕ, Bool, true, false, cond, [], ◌∷◌, ◌++◌, map, ℤ, pos, negsuc, int_lt, refl, sym, ap, ap₂, ◌∙◌, subst}
use Rattle.std.proofs.lemmas.List.{map-append}
use mathlib.Core.Path.{fun_ext}
use Rattle.homeo_syntax.specs.declared.phrase.Compare.{Compare}
use Rattle.homeo_syntax.specs.declared.phrase.Compare.TheVariants.{Less, LessEqual, Equal}
use Rattle.homeo_syntax.specs.Low.{Expr, Exprs, Literal, OfTemp, Read, Sum, Product, Neg, NoExpr, MoreExpr, Test, Cond, True, Not, Comparison, NoTest, MoreTest}
use Rattle.homeo_meaning.specs.LowMeaning.{Location, TempAt, BaseAt, DeltaAt, location_of, same_location, put, passes, whole}
use Rattle.homeo_plan.specs.Table.{replace, replace_all, replace_test, replace_cond, clear, clear_all, clear_test, clear_cond}
use Rattle.homeo_plan.specs.Linear.{Linear, constant_form, add_forms, scale_form, multiply_forms, Forms, base_forms, form}
use Rattle.homeo_plan.specs.Atoms as plan
use Rattle.homeo_plan.specs.FormSizes.{Numbers, CanForm, CanSum, CanProduct, CanSubtract, CanTest, CanCond}
use Rattle.homeo_plan.proofs.Atoms.{form_at_base}
use Rattle.homeo_plan.proofs.Cleared.{form_clear}
use Rattle.homeo_plan.proofs.FormNumbers.{small_form}
use Rattle.homeo_plan.proofs.Replaced.{form_replace}
use Rattle.homeo_plan.proofs.Tables.{passes_replace, passes_clear}
use Rattle.homeo_certificate.specs.Met.{at_zero}
use Rattle.homeo_certificate.specs.Kept.{atom, form_of, kept_true, kept_false, true_test, true_cond, false_test, false_cond}
use Rattle.homeo_certificate.proofs.RunsAlike.{put_at_zero}

pub zero_at_base : (base : ℕ → ℤ) → at_zero (base_forms base) ≡ whole base
unfolding plan_definitions meaning_definitions
zero_at_base base = fun_ext at
  where
    at : (p : Location) → at_zero (base_forms base) p ≡ whole base p
    at (TempAt t) = refl
    at (BaseAt x) = refl
    at (DeltaAt x j) = refl

-- ---- numbers
module _ (P : ℤ → Type 0) where
  subtract : (a b a' b' : Linear) → a' ≡ a → b' ≡ b → CanSubtract P a' b' → CanSubtract P a b
  subtract a b a' b' q r k = subst (λ x. CanSubtract P x b) q (subst (λ y. CanSubtract P a' y) r k)

  module _ (p : Location) (e : Expr) (f : Forms) (h : CanForm P f e) where
    at_place : (b : Bool) (a : Expr) (n : Linear) → CanForm P f (cond b e a) → (CanForm P f a → Numbers P n) → Numbers P (cond b (form f e) n)
    at_place true a n k g = small_form P f e h
    at_place false a n k g = g k

    mutual
      unfolding plan_definitions meaning_definitions

      back : (a : Expr) → CanForm P f (replace p e a) → CanForm P (put f p (form f e)) a
      back (Literal n) k = k
      back (OfTemp t) k = at_place (same_location p (TempAt t)) (OfTemp t) (f (TempAt t)) k (λ q. q)
      back (Read x) k = at_place (same_location p (location_of x)) (Read x) (f (location_of x)) k (λ q. q)
      back (Sum es) k = back_sum es (constant_form (pos 0)) k
      back (Product es) k = back_product es (constant_form (pos 1)) k
      back (Neg a) k = (back a k.0, subst (λ m. Numbers P (scale_form (negsuc 0) m)) (form_replace p e f a) k.1)

      back_sum : (es : Exprs) (a : Linear) → CanSum P f a (replace_all p e es) → CanSum P (put f p (form f e)) a es
      back_sum NoExpr a k = k
      back_sum (MoreExpr b es) a k = (
        k.0,
        back b k.1,
        subst (λ m. CanSum P (put f p (form f e)) (add_forms m a) es) (form_replace p e f b)
            (back_sum es (add_forms (form f (replace p e b)) a) k.2),
      )

      back_product : (es : Exprs) (a : Linear) → CanProduct P f a (replace_all p e es) → CanProduct P (put f p (form f e)) a es
      back_product NoExpr a k = k
      back_product (MoreExpr b es) a k = (
        k.0,
        back b k.1,
        subst (λ m. CanProduct P (put f p (form f e)) (multiply_forms a m) es) (form_replace p e f b)
            (back_product es (multiply_forms a (form f (replace p e b))) k.2),
      )

    mutual
      unfolding plan_definitions meaning_definitions

      back_test : (t : Test) → CanTest P f (replace_test p e t) → CanTest P (put f p (form f e)) t
      back_test True k = tt
      back_test (Not c) k = back_cond c k
      back_test (Comparison op x y) k =
          let q = form_replace p e f x in
          let r = form_replace p e f y in
          (back x k.0, back y k.1, subtract _ _ _ _ q r k.2, subtract _ _ _ _ r q k.3)

      pub back_cond : (c : Cond) → CanCond P f (replace_cond p e c) → CanCond P (put f p (form f e)) c
      back_cond NoTest k = tt
      back_cond (MoreTest t c) k = (back_test t k.0, back_cond c k.1)

  module _ (base : ℕ → ℤ) where
    mutual
      unfolding plan_definitions

      uncleared : (a : Expr) → CanForm P (base_forms base) (clear a) → CanForm P (base_forms base) a
      uncleared (Literal n) k = k
      uncleared (OfTemp t) k = k
      uncleared (Read x) k = k
      uncleared (Sum es) k = uncleared_sum es (constant_form (pos 0)) k
      uncleared (Product es) k = uncleared_product es (constant_form (pos 1)) k
      uncleared (Neg a) k = (uncleared a k.0, subst (λ m. Numbers P (scale_form (negsuc 0) m)) (form_clear base a) k.1)

      uncleared_sum : (es : Exprs) (a : Linear) → CanSum P (base_forms base) a (clear_all es) → CanSum P (base_forms base) a es
      uncleared_sum NoExpr a k = k
      uncleared_sum (MoreExpr b es) a k = (
        k.0,
        uncleared b k.1,
        subst (λ m. CanSum P (base_forms base) (add_forms m a) es) (form_clear base b)
            (uncleared_sum es (add_forms (form (base_forms base) (clear b)) a) k.2),
      )

      uncleared_product : (es : Exprs) (a : Linear) → CanProduct P (base_forms base) a (clear_all es) → CanProduct P (base_forms base) a es
      uncleared_product NoExpr a k = k
      uncleared_product (MoreExpr b es) a k = (
        k.0,
        uncleared b k.1,
        subst (λ m. CanProduct P (base_forms base) (multiply_forms a m) es) (form_clear base b)
            (uncleared_product es (multiply_forms a (form (base_forms base) (clear b))) k.2),
      )

    mutual
      unfolding plan_definitions

      uncleared_test : (t : Test) → CanTest P (base_forms base) (clear_test t) → CanTest P (base_forms base) t
      uncleared_test True k = tt
      uncleared_test (Not c) k = uncleared_cond c k
      uncleared_test (Comparison op x y) k =
          let q = form_clear base x in
          let r = form_clear base y in
          (uncleared x k.0, uncleared y k.1, subtract _ _ _ _ q r k.2, subtract _ _ _ _ r q k.3)

      pub uncleared_cond : (c : Cond) → CanCond P (base_forms base) (clear_cond c) → CanCond P (base_forms base) c
      uncleared_cond NoTest k = tt
      uncleared_cond (MoreTest t c) k = (uncleared_test t k.0, uncleared_cond c k.1)

-- ---- atoms
module _ (p : Location) (e : Expr) (f : Forms) where
  passes_put : (t : Test) → passes (replace_test p e t) (at_zero f) ≡ passes t (at_zero (put f p (form f e)))
  passes_put t = passes_replace p e (at_zero f) t ∙ ap (passes t) (sym (put_at_zero f p e))

  mutual
    unfolding definitions plan_definitions meaning_definitions

    true_test_put : (t : Test) → true_test f (replace_test p e t) ≡ true_test (put f p (form f e)) t
    true_test_put True = refl
    true_test_put (Not c) = false_cond_put c
    true_test_put (Comparison op a b) = ap₂ (kept_true op) (form_replace p e f a) (form_replace p e f b)

    pub true_cond_put : (c : Cond) → true_cond f (replace_cond p e c) ≡ true_cond (put f p (form f e)) c
    true_cond_put NoTest = refl
    true_cond_put (MoreTest t c) = ap₂ ◌++◌ (true_test_put t) (true_cond_put c)

    false_test_put : (t : Test) → false_test f (replace_test p e t) ≡ false_test (put f p (form f e)) t
    false_test_put True = refl
    false_test_put (Not c) = true_cond_put c
    false_test_put (Comparison op a b) = ap₂ (kept_false op) (form_replace p e f a) (form_replace p e f b)

    false_cond_put : (c : Cond) → false_cond f (replace_cond p e c) ≡ false_cond (put f p (form f e)) c
    false_cond_put NoTest = refl
    false_cond_put (MoreTest t c) =
        ap (λ v. cond v (false_cond f (replace_cond p e c)) (false_test f (replace_test p e t))) (passes_put t)
        ∙ ap₂ (cond (passes t (at_zero (put f p (form f e))))) (false_cond_put c) (false_test_put t)

module _ (base : ℕ → ℤ) where
  mutual
    unfolding definitions plan_definitions meaning_definitions

    true_test_clear : (t : Test) → true_test (base_forms base) (clear_test t) ≡ true_test (base_forms base) t
    true_test_clear True = refl
    true_test_clear (Not c) = false_cond_clear c
    true_test_clear (Comparison op a b) = ap₂ (kept_true op) (form_clear base a) (form_clear base b)

    pub true_cond_clear : (c : Cond) → true_cond (base_forms base) (clear_cond c) ≡ true_cond (base_forms base) c
    true_cond_clear NoTest = refl
    true_cond_clear (MoreTest t c) = ap₂ ◌++◌ (true_test_clear t) (true_cond_clear c)

    false_test_clear : (t : Test) → false_test (base_forms base) (clear_test t) ≡ false_test (base_forms base) t
    false_test_clear True = refl
    false_test_clear (Not c) = true_cond_clear c
    false_test_clear (Comparison op a b) = ap₂ (kept_false op) (form_clear base a) (form_clear base b)

    false_cond_clear : (c : Cond) → false_cond (base_forms base) (clear_cond c) ≡ false_cond (base_forms base) c
    false_cond_clear NoTest = refl
    false_cond_clear (MoreTest t c) =
        ap (λ v. cond v (false_cond (base_forms base) (clear_cond c)) (false_test (base_forms base) (clear_test t)))
        (passes_clear (at_zero (base_forms base)) (λ u. refl) t)
        ∙ ap₂ (cond (passes t (at_zero (base_forms base)))) (false_cond_clear c) (false_test_clear t)

  -- ---- as the plan has them
  module _ (zero_is : at_zero (base_forms base) ≡ whole base) where
    kept_true_is : (op : Compare) (a b : Linear) → map form_of (kept_true op a b) ≡ plan.true_comparison op a b
    unfolding definitions plan_definitions
    kept_true_is Less a b = refl
    kept_true_is LessEqual a b = refl
    kept_true_is Equal a b = refl

    kept_false_is : (op : Compare) (a b : Linear) → map form_of (kept_false op a b) ≡ plan.false_comparison op (int_lt a.constant b.constant) a b
    unfolding definitions plan_definitions
    kept_false_is Less a b = refl
    kept_false_is LessEqual a b = refl
    kept_false_is Equal a b = go (int_lt a.constant b.constant)
      where
        go : (v : Bool) → form_of (cond v (atom a b (pos 1)) (atom b a (pos 1))) ∷ [] ≡ cond v (plan.difference a b (pos 1)) (plan.difference b a (pos 1)) ∷ []
        go true = refl
        go false = refl

    mutual
      unfolding definitions plan_definitions meaning_definitions

      true_test_is : (t : Test) → map form_of (true_test (base_forms base) t) ≡ plan.true_test base t
      true_test_is True = refl
      true_test_is (Not c) = false_cond_is c
      true_test_is (Comparison op x y) = kept_true_is op (form (base_forms base) x) (form (base_forms base) y)

      pub true_cond_is : (c : Cond) → map form_of (true_cond (base_forms base) c) ≡ plan.true_cond base c
      true_cond_is NoTest = refl
      true_cond_is (MoreTest t c) =
          map-append form_of (true_test (base_forms base) t) (true_cond (base_forms base) c)
          ∙ ap₂ ◌++◌ (true_test_is t) (true_cond_is c)

      false_test_is : (t : Test) → map form_of (false_test (base_forms base) t) ≡ plan.false_test base t
      false_test_is True = refl
      false_test_is (Not c) = true_cond_is c
      false_test_is (Comparison op x y) =
          kept_false_is op (form (base_forms base) x) (form (base_forms base) y)
          ∙ ap (λ v. plan.false_comparison op v (form (base_forms base) x) (form (base_forms base) y))
          (ap₂ int_lt (sym (form_at_base base x)) (sym (form_at_base base y)))

      false_cond_is : (c : Cond) → map form_of (false_cond (base_forms base) c) ≡ plan.false_cond base c
      false_cond_is NoTest = refl
      false_cond_is (MoreTest t c) =
          ap (λ s. map form_of (cond (passes t s) (false_cond (base_forms base) c) (false_test (base_forms base) t))) zero_is
          ∙ go (passes t (whole base)) (false_cond_is c) (false_test_is t)
        where
          go :
              (v : Bool) → map form_of (false_cond (base_forms base) c) ≡ plan.false_cond base c →
              map form_of (false_test (base_forms base) t) ≡ plan.false_test base t →
              map form_of (cond v (false_cond (base_forms base) c) (false_test (base_forms base) t)) ≡
              cond v (plan.false_cond base c) (plan.false_test base t)
          go true h k = h
          go false h k = k
