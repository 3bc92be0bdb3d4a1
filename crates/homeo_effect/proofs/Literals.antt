-- Sums, products and negations of literals: what they are worth, and that they are small where the phrase's numbers are.
use Rattle.std.proofs.Common.{◌≡◌, ℕ, ℤ, pos, ◌+ℤ◌, ◌*ℤ◌, neg_ℤ, true, Option, Some, None, refl, sym, ap, subst}
use Rattle.std.specs.Option.{unwrap_or}
use Rattle.std.proofs.lemmas.Option.{none-some}
use Rattle.std.proofs.lemmas.Bool.{and_parts}
use Rattle.homeo_syntax.specs.Low.{Expr, Exprs, Literal, OfTemp, Read, Sum, Product, Neg, NoExpr, MoreExpr}
use Rattle.homeo_meaning.specs.Key.{definitions as meaning_definitions}
use Rattle.homeo_meaning.specs.LowMeaning.{State, value, sum_value, product_value}
use Rattle.homeo_meaning.specs.Small.{is_small}
use Rattle.homeo_split.specs.Key.{definitions as split_definitions}
use Rattle.homeo_split.specs.CanExec.{expr_fits, sum_fits, product_fits}
use Rattle.homeo_effect.specs.Key.{definitions}
use Rattle.homeo_effect.specs.Localized.{literal_or, literal_sum, literal_product, summed, multiplied, negated}
use Rattle.homeo_effect.specs.inner.Literals.{literal_of}

same_some : (n m : ℤ) → Some n ≡ Some m → n ≡ m
same_some n m h = ap (λ o. unwrap_or o n) h

-- ---- values
module _ (s : State) where
  sum_worth : (es : Exprs) (n m : ℤ) → literal_sum n es ≡ Some m → sum_value n es s ≡ m
  unfolding definitions meaning_definitions
  sum_worth NoExpr n m h = same_some n m h
  sum_worth (MoreExpr (Literal k) es) n m h = sum_worth es (n +ℤ k) m h
  sum_worth (MoreExpr (OfTemp t) es) n m h = absurd (none-some m h)
  sum_worth (MoreExpr (Read x) es) n m h = absurd (none-some m h)
  sum_worth (MoreExpr (Sum ts) es) n m h = absurd (none-some m h)
  sum_worth (MoreExpr (Product ts) es) n m h = absurd (none-some m h)
  sum_worth (MoreExpr (Neg e) es) n m h = absurd (none-some m h)

  product_worth : (es : Exprs) (n m : ℤ) → literal_product n es ≡ Some m → product_value n es s ≡ m
  unfolding definitions meaning_definitions
  product_worth NoExpr n m h = same_some n m h
  product_worth (MoreExpr (Literal k) es) n m h = product_worth es (n *ℤ k) m h
  product_worth (MoreExpr (OfTemp t) es) n m h = absurd (none-some m h)
  product_worth (MoreExpr (Read x) es) n m h = absurd (none-some m h)
  product_worth (MoreExpr (Sum ts) es) n m h = absurd (none-some m h)
  product_worth (MoreExpr (Product ts) es) n m h = absurd (none-some m h)
  product_worth (MoreExpr (Neg e) es) n m h = absurd (none-some m h)

  pub summed_value : (es : Exprs) → value (summed es) s ≡ sum_value (pos 0) es s
  unfolding definitions meaning_definitions
  summed_value es = go (literal_sum (pos 0) es) refl
    where
      go : (o : Option ℤ) → literal_sum (pos 0) es ≡ o → value (literal_or o (Sum es)) s ≡ sum_value (pos 0) es s
      go None h = refl
      go (Some m) h = sym (sum_worth es (pos 0) m h)

  pub multiplied_value : (es : Exprs) → value (multiplied es) s ≡ product_value (pos 1) es s
  unfolding definitions meaning_definitions
  multiplied_value es = go (literal_product (pos 1) es) refl
    where
      go : (o : Option ℤ) → literal_product (pos 1) es ≡ o → value (literal_or o (Product es)) s ≡ product_value (pos 1) es s
      go None h = refl
      go (Some m) h = sym (product_worth es (pos 1) m h)

  pub negated_value : (e : Expr) → value (negated e) s ≡ neg_ℤ (value e s)
  unfolding definitions meaning_definitions
  negated_value (Literal n) = refl
  negated_value (OfTemp t) = refl
  negated_value (Read x) = refl
  negated_value (Sum es) = refl
  negated_value (Product es) = refl
  negated_value (Neg e) = refl

-- ---- sizes
module _ (b : ℕ) (s : State) where
  sum_small : (es : Exprs) (n m : ℤ) → literal_sum n es ≡ Some m → sum_fits b n es s ≡ true → is_small b m ≡ true
  unfolding definitions meaning_definitions split_definitions
  sum_small NoExpr n m h f = subst (λ v. is_small b v ≡ true) (same_some n m h) f
  sum_small (MoreExpr (Literal k) es) n m h f = sum_small es (n +ℤ k) m h (and_parts _ _ (and_parts (is_small b n) _ f).1).1
  sum_small (MoreExpr (OfTemp t) es) n m h f = absurd (none-some m h)
  sum_small (MoreExpr (Read x) es) n m h f = absurd (none-some m h)
  sum_small (MoreExpr (Sum ts) es) n m h f = absurd (none-some m h)
  sum_small (MoreExpr (Product ts) es) n m h f = absurd (none-some m h)
  sum_small (MoreExpr (Neg e) es) n m h f = absurd (none-some m h)

  product_small : (es : Exprs) (n m : ℤ) → literal_product n es ≡ Some m → product_fits b n es s ≡ true → is_small b m ≡ true
  unfolding definitions meaning_definitions split_definitions
  product_small NoExpr n m h f = subst (λ v. is_small b v ≡ true) (same_some n m h) f
  product_small (MoreExpr (Literal k) es) n m h f = product_small es (n *ℤ k) m h (and_parts _ _ (and_parts (is_small b n) _ f).1).1
  product_small (MoreExpr (OfTemp t) es) n m h f = absurd (none-some m h)
  product_small (MoreExpr (Read x) es) n m h f = absurd (none-some m h)
  product_small (MoreExpr (Sum ts) es) n m h f = absurd (none-some m h)
  product_small (MoreExpr (Product ts) es) n m h f = absurd (none-some m h)
  product_small (MoreExpr (Neg e) es) n m h f = absurd (none-some m h)

  pub summed_fits : (es : Exprs) → sum_fits b (pos 0) es s ≡ true → expr_fits b (summed es) s ≡ true
  unfolding definitions meaning_definitions split_definitions
  summed_fits es f = go (literal_sum (pos 0) es) refl
    where
      go : (o : Option ℤ) → literal_sum (pos 0) es ≡ o → expr_fits b (literal_or o (Sum es)) s ≡ true
      go None h = f
      go (Some m) h = sum_small es (pos 0) m h f

  pub multiplied_fits : (es : Exprs) → product_fits b (pos 1) es s ≡ true → expr_fits b (multiplied es) s ≡ true
  unfolding definitions meaning_definitions split_definitions
  multiplied_fits es f = go (literal_product (pos 1) es) refl
    where
      go : (o : Option ℤ) → literal_product (pos 1) es ≡ o → expr_fits b (literal_or o (Product es)) s ≡ true
      go None h = f
      go (Some m) h = product_small es (pos 1) m h f

  pub negated_fits : (e : Expr) → expr_fits b (Neg e) s ≡ true → expr_fits b (negated e) s ≡ true
  unfolding definitions meaning_definitions split_definitions
  negated_fits (Literal n) f = (and_parts (is_small b n) _ f).1
  negated_fits (OfTemp t) f = f
  negated_fits (Read x) f = f
  negated_fits (Sum es) f = f
  negated_fits (Product es) f = f
  negated_fits (Neg e) f = f

-- ---- the first of the phrases that are left
none_of : {t : Type 0} (m : ℤ) → Some m ≡ None → t
none_of m h = absurd (none-some m (sym h))

pub literal_is : (e : Expr) (n : ℤ) → Some n ≡ literal_of e → e ≡ Literal n
unfolding definitions
literal_is (Literal m) n h = ap Literal (sym (same_some n m h))
literal_is (OfTemp t) n h = none_of n h
literal_is (Read x) n h = none_of n h
literal_is (Sum es) n h = none_of n h
literal_is (Product es) n h = none_of n h
literal_is (Neg e) n h = none_of n h

pub no_sum : (e : Expr) (es : Exprs) (n : ℤ) → None ≡ literal_of e → literal_sum n (MoreExpr e es) ≡ None
unfolding definitions
no_sum (Literal m) es n h = absurd (none-some m h)
no_sum (OfTemp t) es n h = refl
no_sum (Read x) es n h = refl
no_sum (Sum ts) es n h = refl
no_sum (Product ts) es n h = refl
no_sum (Neg e) es n h = refl

pub no_product : (e : Expr) (es : Exprs) (n : ℤ) → None ≡ literal_of e → literal_product n (MoreExpr e es) ≡ None
unfolding definitions
no_product (Literal m) es n h = absurd (none-some m h)
no_product (OfTemp t) es n h = refl
no_product (Read x) es n h = refl
no_product (Sum ts) es n h = refl
no_product (Product ts) es n h = refl
no_product (Neg e) es n h = refl

pub negated_Some : (e : Expr) (n : ℤ) → Some n ≡ literal_of e → Literal (neg_ℤ n) ≡ negated e
unfolding definitions
negated_Some e n h = ap negated (sym (literal_is e n h))

pub negated_None : (e : Expr) → None ≡ literal_of e → Neg e ≡ negated e
unfolding definitions
negated_None (Literal m) h = absurd (none-some m h)
negated_None (OfTemp t) h = refl
negated_None (Read x) h = refl
negated_None (Sum es) h = refl
negated_None (Product es) h = refl
negated_None (Neg e) h = refl

pub negation_small : (b : ℕ) (e : Expr) (n : ℤ) (s : State) → Some n ≡ literal_of e → is_small b (neg_ℤ (value e s)) ≡ true → is_small b (neg_ℤ n) ≡ true
unfolding meaning_definitions
negation_small b e n s h f = subst (λ d. is_small b (neg_ℤ (value d s)) ≡ true) (literal_is e n h) f
