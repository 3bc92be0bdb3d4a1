-- An expression put in at a place, and then others: as where it stands there, with the others in it.
use Rattle.std.proofs.Common.{◌≡◌, Bool, true, false, cond, Option, Some, None, pos, refl, sym, ap, ap₂}
use Rattle.std.specs.Option.{unwrap_or}
use Rattle.homeo_syntax.specs.Low.{Expr, Exprs, Literal, OfTemp, Read, Sum, Product, Neg, NoExpr, MoreExpr, Test, Cond, True, Not, Comparison, NoTest, MoreTest}
use Rattle.homeo_meaning.specs.Key.{definitions as meaning_definitions}
use Rattle.homeo_meaning.specs.LowMeaning.{Location, TempAt, location_of, same_location, put}
use Rattle.homeo_plan.specs.Key.{definitions as plan_definitions}
use Rattle.homeo_plan.specs.Table.{replace, replace_all, replace_test, replace_cond, both, clear, clear_all, clear_test, clear_cond}
use Rattle.homeo_substitution.specs.Key.{definitions as substitution_definitions}
use Rattle.homeo_substitution.specs.Substitution.{substituted, substituted_all, substituted_test, substituted_cond}

module _ (s : Location → Option Expr) where
  chosen : (b : Bool) (e a d : Expr) (o : Option Expr) → substituted s a ≡ unwrap_or o d → unwrap_or (cond b (Some (substituted s e)) o) d ≡ substituted s (cond b e a)
  chosen true e a d o h = refl
  chosen false e a d o h = sym h

  module _ (p : Location) (e : Expr) where
    mutual
      unfolding substitution_definitions meaning_definitions plan_definitions

      put-expr : (a : Expr) → substituted (put s p (Some (substituted s e))) a ≡ substituted s (replace p e a)
      put-expr (Literal n) = refl
      put-expr (OfTemp t) = chosen (same_location p (TempAt t)) e (OfTemp t) (Literal (pos 0)) (s (TempAt t)) refl
      put-expr (Read x) = chosen (same_location p (location_of x)) e (Read x) (Read x) (s (location_of x)) refl
      put-expr (Sum es) = ap Sum (put-exprs es)
      put-expr (Product es) = ap Product (put-exprs es)
      put-expr (Neg a) = ap Neg (put-expr a)

      put-exprs : (es : Exprs) → substituted_all (put s p (Some (substituted s e))) es ≡ substituted_all s (replace_all p e es)
      put-exprs NoExpr = refl
      put-exprs (MoreExpr a es) = ap₂ MoreExpr (put-expr a) (put-exprs es)

    mutual
      unfolding substitution_definitions meaning_definitions plan_definitions

      put-test : (t : Test) → substituted_test (put s p (Some (substituted s e))) t ≡ substituted_test s (replace_test p e t)
      put-test True = refl
      put-test (Not c) = ap Not (put-cond c)
      put-test (Comparison op a b) = ap₂ (Comparison op) (put-expr a) (put-expr b)

      pub put-cond : (c : Cond) → substituted_cond (put s p (Some (substituted s e))) c ≡ substituted_cond s (replace_cond p e c)
      put-cond NoTest = refl
      put-cond (MoreTest t c) = ap₂ MoreTest (put-test t) (put-cond c)

  pub substituted-both : (b c : Cond) → substituted_cond s (both b c) ≡ both (substituted_cond s b) (substituted_cond s c)
  unfolding substitution_definitions plan_definitions
  substituted-both NoTest c = refl
  substituted-both (MoreTest t b) c = ap (MoreTest (substituted_test s t)) (substituted-both b c)

-- ---- where nothing is set
mutual
  unfolding substitution_definitions plan_definitions

  none-expr : (a : Expr) → substituted (λ l. None) a ≡ clear a
  none-expr (Literal n) = refl
  none-expr (OfTemp t) = refl
  none-expr (Read x) = refl
  none-expr (Sum es) = ap Sum (none-exprs es)
  none-expr (Product es) = ap Product (none-exprs es)
  none-expr (Neg a) = ap Neg (none-expr a)

  none-exprs : (es : Exprs) → substituted_all (λ l. None) es ≡ clear_all es
  none-exprs NoExpr = refl
  none-exprs (MoreExpr a es) = ap₂ MoreExpr (none-expr a) (none-exprs es)

mutual
  unfolding substitution_definitions plan_definitions

  none-test : (t : Test) → substituted_test (λ l. None) t ≡ clear_test t
  none-test True = refl
  none-test (Not c) = ap Not (none-cond c)
  none-test (Comparison op a b) = ap₂ (Comparison op) (none-expr a) (none-expr b)

  pub none-cond : (c : Cond) → substituted_cond (λ l. None) c ≡ clear_cond c
  none-cond NoTest = refl
  none-cond (MoreTest t c) = ap₂ MoreTest (none-test t) (none-cond c)
