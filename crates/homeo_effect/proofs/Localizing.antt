-- An expression at its site is worth what the given one is in each state of the site, and its numbers are small where those are.
use Rattle.std.proofs.Common.{◌≡◌, ℕ, ◌==◌, ℤ, pos, ◌+ℤ◌, ◌*ℤ◌, neg_ℤ, Bool, true, false, cond, refl, sym, ap, ◌∙◌, subst}
use Rattle.std.proofs.lemmas.Bool.{and_parts}
use Rattle.homeo_lemmas.proofs.Bools.{both}
use Rattle.homeo_syntax.specs.declared.low.SplitName.{SplitName}
use Rattle.homeo_syntax.specs.declared.low.SplitName.TheVariants.{Whole, Base, Delta}
use Rattle.homeo_syntax.specs.Low.{Expr, Exprs, Literal, OfTemp, Read, Sum, Product, Neg, NoExpr, MoreExpr}
use Rattle.homeo_meaning.specs.Key.{definitions as meaning_definitions}
use Rattle.homeo_meaning.specs.LowMeaning.{State, DeltaAt, location_of, value, sum_value, product_value}
use Rattle.homeo_meaning.specs.Small.{is_small}
use Rattle.homeo_split.specs.Key.{definitions as split_definitions}
use Rattle.homeo_split.specs.CanExec.{expr_fits, sum_fits, product_fits}
use Rattle.homeo_effect.specs.Key.{definitions}
use Rattle.homeo_effect.specs.Localized.{local_read, local_expr, local_exprs}
use Rattle.homeo_effect.specs.inner.Alone.{IsAlone}
use Rattle.homeo_effect.proofs.Literals.{summed_value, multiplied_value, negated_value, summed_fits, multiplied_fits, negated_fits}

module _ (b : ℕ → ℤ) (i : ℕ) (s : State) (a : IsAlone b i s) where
  -- ---- values
  read_value : (x : SplitName) → value (local_read b i x) s ≡ s (location_of x)
  unfolding definitions meaning_definitions
  read_value (Whole x) = sym (a.bases x)
  read_value (Base x) = sym (a.bases x)
  read_value (Delta x j) = go (j == i) refl
    where
      go : (v : Bool) → (j == i) ≡ v → value (cond v (Read (Delta x j)) (Literal (pos 0))) s ≡ s (DeltaAt x j)
      go true q = refl
      go false q = sym (a.others x j q)

  mutual
    unfolding definitions meaning_definitions

    pub same_value : (e : Expr) → value (local_expr b i e) s ≡ value e s
    same_value (Literal n) = refl
    same_value (OfTemp t) = refl
    same_value (Read x) = read_value x
    same_value (Sum es) = summed_value s (local_exprs b i es) ∙ same_sum es (pos 0)
    same_value (Product es) = multiplied_value s (local_exprs b i es) ∙ same_product es (pos 1)
    same_value (Neg e) = negated_value s (local_expr b i e) ∙ ap neg_ℤ (same_value e)

    same_sum : (es : Exprs) (n : ℤ) → sum_value n (local_exprs b i es) s ≡ sum_value n es s
    same_sum NoExpr n = refl
    same_sum (MoreExpr e es) n = same_sum es (n +ℤ value (local_expr b i e) s) ∙ ap (λ v. sum_value (n +ℤ v) es s) (same_value e)

    same_product : (es : Exprs) (n : ℤ) → product_value n (local_exprs b i es) s ≡ product_value n es s
    same_product NoExpr n = refl
    same_product (MoreExpr e es) n = same_product es (n *ℤ value (local_expr b i e) s) ∙ ap (λ v. product_value (n *ℤ v) es s) (same_value e)

  -- ---- sizes
  module _ (l : ℕ) where
    read_fits : (x : SplitName) → is_small l (s (location_of x)) ≡ true → expr_fits l (local_read b i x) s ≡ true
    unfolding definitions meaning_definitions split_definitions
    read_fits (Whole x) f = subst (λ v. is_small l v ≡ true) (a.bases x) f
    read_fits (Base x) f = subst (λ v. is_small l v ≡ true) (a.bases x) f
    read_fits (Delta x j) f = go (j == i) refl
      where
        go : (v : Bool) → (j == i) ≡ v → expr_fits l (cond v (Read (Delta x j)) (Literal (pos 0))) s ≡ true
        go true q = f
        go false q = subst (λ v. is_small l v ≡ true) (a.others x j q) f

    mutual
      unfolding definitions meaning_definitions split_definitions

      pub fits_too : (e : Expr) → expr_fits l e s ≡ true → expr_fits l (local_expr b i e) s ≡ true
      fits_too (Literal n) f = f
      fits_too (OfTemp t) f = f
      fits_too (Read x) f = read_fits x f
      fits_too (Sum es) f = summed_fits l s (local_exprs b i es) (sum_fits_too es (pos 0) f)
      fits_too (Product es) f = multiplied_fits l s (local_exprs b i es) (product_fits_too es (pos 1) f)
      fits_too (Neg e) f =
          let parts = and_parts (expr_fits l e s) _ f in
          negated_fits l s (local_expr b i e)
          (both (fits_too e parts.0) (subst (λ v. is_small l (neg_ℤ v) ≡ true) (sym (same_value e)) parts.1))

      pub sum_fits_too : (es : Exprs) (n : ℤ) → sum_fits l n es s ≡ true → sum_fits l n (local_exprs b i es) s ≡ true
      sum_fits_too NoExpr n f = f
      sum_fits_too (MoreExpr e es) n f =
          let parts = and_parts (is_small l n) _ f in
          let more = and_parts (expr_fits l e s) _ parts.1 in
          both parts.0
          (both (fits_too e more.0)
          (subst (λ v. sum_fits l (n +ℤ v) (local_exprs b i es) s ≡ true) (sym (same_value e)) (sum_fits_too es (n +ℤ value e s) more.1)))

      pub product_fits_too : (es : Exprs) (n : ℤ) → product_fits l n es s ≡ true → product_fits l n (local_exprs b i es) s ≡ true
      product_fits_too NoExpr n f = f
      product_fits_too (MoreExpr e es) n f =
          let parts = and_parts (is_small l n) _ f in
          let more = and_parts (expr_fits l e s) _ parts.1 in
          both parts.0
          (both (fits_too e more.0)
          (subst (λ v. product_fits l (n *ℤ v) (local_exprs b i es) s ≡ true) (sym (same_value e)) (product_fits_too es (n *ℤ value e s) more.1)))
