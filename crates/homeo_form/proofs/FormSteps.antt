-- Forms of expressions, one part after another.
use Rattle.std.proofs.Common.{◌≡◌, Box, Global, List, map, ℤ, pos, negsuc, sym, ap, ◌∙◌, subst, arith}
use Rattle.homeo_syntax.specs.Low as l
use Rattle.homeo_syntax.specs.LowView.{low_exprs, plain_lexpr}
use Rattle.homeo_syntax.specs.Listed.{Listed}
use Rattle.homeo_syntax.specs.declared.low.Temp as temps
use Rattle.homeo_syntax.specs.declared.low.SplitName.{SplitName}
use Rattle.homeo_syntax.specs.declared.low.LExpr.{LExpr, Literal, Temp, Read, Sum, Product, Neg}
use Rattle.homeo_syntax.proofs.LowViews.{low_Literal, low_Temp, low_Read, low_Sum, low_Product, low_Neg}
use Rattle.homeo_meaning.specs.LowMeaning.{Location, TempAt, location_of}
use Rattle.homeo_meaning.specs.Key.{definitions as meaning_definitions}
use Rattle.homeo_meaning.specs.Small.{IsSmall}
use Rattle.homeo_plan.specs.Key.{definitions as plan_definitions}
use Rattle.homeo_plan.specs.FormSizes.{Numbers, CanForm, CanSum, CanProduct}
use Rattle.homeo_plan.specs.Linear.{Linear, Forms, constant_form, scale_form, form, sum_form, product_form}
use Rattle.homeo_plan.specs.Limit.{form_limit}
use Rattle.homeo_plan.proofs.FormNumbers.{small_form}
use Rattle.homeo_form.proofs.Folds.{IsFold, sums, products}

pub one_is_small : IsSmall form_limit (negsuc 0)
unfolding meaning_definitions
one_is_small = omega arith

-- ---- of each kind of expression
module _ (f : Forms) (e : LExpr) where
  -- of a sum or a product, by the fold of its parts
  module _
      {whole : l.Exprs → l.Expr} {start : Linear} {Can : Linear → l.Exprs → Type 0} {made : Linear → l.Exprs → Linear} {next : Linear → Linear → Linear}
      (fold : IsFold f whole start Can made next) (es : Listed LExpr) (xs : List LExpr) (p : plain_lexpr e ≡ whole (low_exprs (map plain_lexpr es.items))) (q : xs ≡ es.items)
    where
      is_whole : plain_lexpr e ≡ whole (low_exprs (map plain_lexpr xs))
      is_whole = p ∙ sym (ap (λ l. whole (low_exprs (map plain_lexpr l))) q)

      parts_can : CanForm (IsSmall form_limit) f (plain_lexpr e) → Can start (low_exprs (map plain_lexpr xs))
      parts_can h = fold.whole_can (low_exprs (map plain_lexpr xs)) (subst (CanForm (IsSmall form_limit) f) is_whole h)

      parts_form : (a : Linear) → a ≡ made start (low_exprs (map plain_lexpr xs)) → a ≡ form f (plain_lexpr e)
      parts_form a r = r ∙ sym (ap (form f) is_whole ∙ fold.whole_is (low_exprs (map plain_lexpr xs)))

  pub sum_can : (es : Listed LExpr) (xs : List LExpr) → e ≡ Sum es → xs ≡ es.items → CanForm (IsSmall form_limit) f (plain_lexpr e) → CanSum (IsSmall form_limit) f (constant_form (pos 0)) (low_exprs (map plain_lexpr xs))
  sum_can es xs p q h = parts_can (sums f) es xs (ap plain_lexpr p ∙ low_Sum es) q h

  pub product_can : (es : Listed LExpr) (xs : List LExpr) → e ≡ Product es → xs ≡ es.items → CanForm (IsSmall form_limit) f (plain_lexpr e) → CanProduct (IsSmall form_limit) f (constant_form (pos 1)) (low_exprs (map plain_lexpr xs))
  product_can es xs p q h = parts_can (products f) es xs (ap plain_lexpr p ∙ low_Product es) q h

  pub neg_can : (b : Box LExpr Global) (x : LExpr) → e ≡ Neg b → x ≡ b.value → CanForm (IsSmall form_limit) f (plain_lexpr e) → CanForm (IsSmall form_limit) f (plain_lexpr x)
  unfolding plan_definitions
  neg_can b x p q h =
      let k : CanForm (IsSmall form_limit) f (l.Neg (plain_lexpr b.value)) = subst (CanForm (IsSmall form_limit) f) (ap plain_lexpr p ∙ low_Neg b) h in
      subst (λ y. CanForm (IsSmall form_limit) f (plain_lexpr y)) (sym q) k.0

  pub neg_small : (b : Box LExpr Global) (x : LExpr) (a : Linear) → e ≡ Neg b → x ≡ b.value → a ≡ form f (plain_lexpr x) → CanForm (IsSmall form_limit) f (plain_lexpr e) → Numbers (IsSmall form_limit) a
  neg_small b x a p q r h =
      subst (Numbers (IsSmall form_limit)) (sym r) (small_form (IsSmall form_limit) f (plain_lexpr x) (neg_can b x p q h))

  pub literal_form : (n : ℤ) (a : Linear) → e ≡ Literal n → a ≡ constant_form n → a ≡ form f (plain_lexpr e)
  unfolding plan_definitions
  literal_form n a p q = q ∙ sym (ap (λ x. form f (plain_lexpr x)) p ∙ ap (form f) (low_Literal n))

  pub temp_form : (t : temps.Temp) (k : Location) (a : Linear) → e ≡ Temp t → k ≡ TempAt t → a ≡ f k → a ≡ form f (plain_lexpr e)
  unfolding plan_definitions
  temp_form t k a p q r = r ∙ ap f q ∙ sym (ap (λ x. form f (plain_lexpr x)) p ∙ ap (form f) (low_Temp t))

  pub read_form : (x : SplitName) (k : Location) (a : Linear) → e ≡ Read x → k ≡ location_of x → a ≡ f k → a ≡ form f (plain_lexpr e)
  unfolding plan_definitions
  read_form x k a p q r = r ∙ ap f q ∙ sym (ap (λ y. form f (plain_lexpr y)) p ∙ ap (form f) (low_Read x))

  pub sum_is_form :
      (es : Listed LExpr) (xs : List LExpr) (a : Linear) → e ≡ Sum es → xs ≡ es.items → a ≡ sum_form f (constant_form (pos 0)) (low_exprs (map plain_lexpr xs)) →
      a ≡ form f (plain_lexpr e)
  sum_is_form es xs a p q r = parts_form (sums f) es xs (ap plain_lexpr p ∙ low_Sum es) q a r

  pub product_is_form :
      (es : Listed LExpr) (xs : List LExpr) (a : Linear) → e ≡ Product es → xs ≡ es.items →
      a ≡ product_form f (constant_form (pos 1)) (low_exprs (map plain_lexpr xs)) → a ≡ form f (plain_lexpr e)
  product_is_form es xs a p q r = parts_form (products f) es xs (ap plain_lexpr p ∙ low_Product es) q a r

  pub neg_form :
      (b : Box LExpr Global) (x : LExpr) (a c : Linear) → e ≡ Neg b → x ≡ b.value → a ≡ form f (plain_lexpr x) → c ≡ scale_form (negsuc 0) a →
      c ≡ form f (plain_lexpr e)
  unfolding plan_definitions
  neg_form b x a c p q r s =
      s ∙ ap (scale_form (negsuc 0)) (r ∙ ap (λ y. form f (plain_lexpr y)) q) ∙ sym (ap (λ x. form f (plain_lexpr x)) p ∙ ap (form f) (low_Neg b))

-- that the forms of the parts can be made where that of the whole can
pub ruleset can_parts = (one_is_small, sum_can, product_can, neg_can)
