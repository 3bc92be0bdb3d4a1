-- An expression or condition with what stands there put in has at a state the value that it has after it, and fits there.
use Rattle.std.proofs.Common.{◌≡◌, ℤ, pos, ◌+ℤ◌, ◌*ℤ◌, neg_ℤ, Bool, true, false, cond, not, ◌&&◌, Option, Some, None, refl, sym, ap, ap₂, ◌∙◌}
use Rattle.std.proofs.lemmas.Bool.{and_parts}
use Rattle.std.specs.Option.{unwrap_or}
use Rattle.homeo_syntax.specs.declared.low.SplitName.{SplitName}
use Rattle.homeo_syntax.specs.Low.{Expr, Exprs, Literal, OfTemp, Read, Sum, Product, Neg, NoExpr, MoreExpr, Test, Cond, True, Not, Comparison, NoTest, MoreTest}
use Rattle.homeo_meaning.specs.Key.{definitions as meaning_definitions}
use Rattle.homeo_meaning.specs.Meaning.{compared}
use Rattle.homeo_meaning.specs.Small.{is_small}
use Rattle.homeo_meaning.specs.LowMeaning.{Location, TempAt, State, location_of, same_location, put, value, sum_value, product_value, passes, holds}
use Rattle.homeo_plan.specs.Key.{definitions as plan_definitions}
use Rattle.homeo_plan.specs.Table.{HasNoTemps}
use Rattle.homeo_split.specs.Key.{definitions as split_definitions}
use Rattle.homeo_split.specs.CanExec.{run_limit, expr_fits, sum_fits, product_fits, test_fits, cond_fits}
use Rattle.homeo_substitution.specs.Key.{definitions as substitution_definitions}
use Rattle.homeo_substitution.specs.Substitution.{substituted, substituted_all, substituted_test, substituted_cond}
use Rattle.homeo_table.specs.inner.Walks.{value_or, after, fits_if}

module _ (b : Location → Option Expr) (s : State) (temps : HasNoTemps s) where
  -- ---- values
  value-temp : (o : Option Expr) (n : ℤ) → n ≡ pos 0 → value (unwrap_or o (Literal (pos 0))) s ≡ value_or n o s
  unfolding meaning_definitions
  value-temp None n h = sym h
  value-temp (Some e) n h = refl

  value-read : (o : Option Expr) (x : SplitName) → value (unwrap_or o (Read x)) s ≡ value_or (s (location_of x)) o s
  unfolding meaning_definitions
  value-read None x = refl
  value-read (Some e) x = refl

  mutual
    unfolding substitution_definitions meaning_definitions plan_definitions

    pub value-after : (e : Expr) → value (substituted b e) s ≡ value e (after b s)
    value-after (Literal n) = refl
    value-after (OfTemp t) = value-temp (b (TempAt t)) (s (TempAt t)) (temps t)
    value-after (Read x) = value-read (b (location_of x)) x
    value-after (Sum es) = sum-after es (pos 0)
    value-after (Product es) = product-after es (pos 1)
    value-after (Neg e) = ap neg_ℤ (value-after e)

    sum-after : (es : Exprs) (n : ℤ) → sum_value n (substituted_all b es) s ≡ sum_value n es (after b s)
    sum-after NoExpr n = refl
    sum-after (MoreExpr e es) n =
        sum-after es (n +ℤ value (substituted b e) s) ∙ ap (λ v. sum_value (n +ℤ v) es (after b s)) (value-after e)

    product-after : (es : Exprs) (n : ℤ) → product_value n (substituted_all b es) s ≡ product_value n es (after b s)
    product-after NoExpr n = refl
    product-after (MoreExpr e es) n =
        product-after es (n *ℤ value (substituted b e) s) ∙ ap (λ v. product_value (n *ℤ v) es (after b s)) (value-after e)

  mutual
    unfolding substitution_definitions meaning_definitions

    passes-after : (t : Test) → passes (substituted_test b t) s ≡ passes t (after b s)
    passes-after True = refl
    passes-after (Not c) = ap not (holds-after c)
    passes-after (Comparison op l r) = ap₂ (compared op) (value-after l) (value-after r)

    pub holds-after : (c : Cond) → holds (substituted_cond b c) s ≡ holds c (after b s)
    holds-after NoTest = refl
    holds-after (MoreTest t c) = ap₂ ◌&&◌ (passes-after t) (holds-after c)

  -- ---- the state where one more expression stands
  value-chosen : (v : Bool) (n : ℤ) (e : Expr) (o : Option Expr) → value_or n (cond v (Some (substituted b e)) o) s ≡ cond v (value e (after b s)) (value_or n o s)
  value-chosen true n e o = value-after e
  value-chosen false n e o = refl

  pub after-put : (p : Location) (e : Expr) → after (put b p (Some (substituted b e))) s ≡ put (after b s) p (value e (after b s))
  unfolding meaning_definitions
  after-put p e = λ i l. value-chosen (same_location p l) (s l) e (b l) i

  -- ---- fitting
  module _ (fits : (l : Location) → fits_if (b l) s ≡ true) where
    fits-temp : (o : Option Expr) → fits_if o s ≡ true → expr_fits run_limit (unwrap_or o (Literal (pos 0))) s ≡ true
    unfolding split_definitions meaning_definitions
    fits-temp None h = refl
    fits-temp (Some e) h = h

    fits-read : (o : Option Expr) (x : SplitName) → fits_if o s ≡ true → is_small run_limit (value_or (s (location_of x)) o s) ≡ true → expr_fits run_limit (unwrap_or o (Read x)) s ≡ true
    unfolding split_definitions
    fits-read None x h k = k
    fits-read (Some e) x h k = h

    mutual
      unfolding substitution_definitions meaning_definitions split_definitions

      pub fits-after : (e : Expr) → expr_fits run_limit e (after b s) ≡ true → expr_fits run_limit (substituted b e) s ≡ true
      fits-after (Literal n) h = h
      fits-after (OfTemp t) h = fits-temp (b (TempAt t)) (fits (TempAt t))
      fits-after (Read x) h = fits-read (b (location_of x)) x (fits (location_of x)) h
      fits-after (Sum es) h = sum-fits-after es (pos 0) h
      fits-after (Product es) h = product-fits-after es (pos 1) h
      fits-after (Neg e) h =
          let k = and_parts _ _ h in
          ap₂ ◌&&◌ (fits-after e k.0) (ap (λ v. is_small run_limit (neg_ℤ v)) (value-after e) ∙ k.1)

      sum-fits-after : (es : Exprs) (n : ℤ) → sum_fits run_limit n es (after b s) ≡ true → sum_fits run_limit n (substituted_all b es) s ≡ true
      sum-fits-after NoExpr n h = h
      sum-fits-after (MoreExpr e es) n h =
          let k = and_parts _ _ h in
          let m = and_parts _ _ k.1 in
          ap₂ ◌&&◌ k.0
          (ap₂ ◌&&◌ (fits-after e m.0)
          (ap (λ v. sum_fits run_limit (n +ℤ v) (substituted_all b es) s) (value-after e) ∙ sum-fits-after es (n +ℤ value e (after b s)) m.1))

      product-fits-after : (es : Exprs) (n : ℤ) → product_fits run_limit n es (after b s) ≡ true → product_fits run_limit n (substituted_all b es) s ≡ true
      product-fits-after NoExpr n h = h
      product-fits-after (MoreExpr e es) n h =
          let k = and_parts _ _ h in
          let m = and_parts _ _ k.1 in
          ap₂ ◌&&◌ k.0
          (ap₂ ◌&&◌ (fits-after e m.0)
          (ap (λ v. product_fits run_limit (n *ℤ v) (substituted_all b es) s) (value-after e) ∙ product-fits-after es (n *ℤ value e (after b s)) m.1))

    where-passes : (v : Bool) (x y : Bool) → (x ≡ true → y ≡ true) → cond v x true ≡ true → cond v y true ≡ true
    where-passes true x y f h = f h
    where-passes false x y f h = refl

    mutual
      unfolding substitution_definitions meaning_definitions split_definitions

      test-fits-after : (t : Test) → test_fits run_limit t (after b s) ≡ true → test_fits run_limit (substituted_test b t) s ≡ true
      test-fits-after True h = refl
      test-fits-after (Not c) h = cond-fits-after c h
      test-fits-after (Comparison op l r) h =
          let k = and_parts _ _ h in
          ap₂ ◌&&◌ (fits-after l k.0) (fits-after r k.1)

      pub cond-fits-after : (c : Cond) → cond_fits run_limit c (after b s) ≡ true → cond_fits run_limit (substituted_cond b c) s ≡ true
      cond-fits-after NoTest h = refl
      cond-fits-after (MoreTest t c) h =
          let k = and_parts _ _ h in
          ap₂ ◌&&◌ (test-fits-after t k.0)
          (ap (λ v. cond v (cond_fits run_limit (substituted_cond b c) s) true) (passes-after t)
          ∙ where-passes (passes t (after b s)) (cond_fits run_limit c (after b s)) (cond_fits run_limit (substituted_cond b c) s) (cond-fits-after c) k.1)

    fits-chosen : (v : Bool) (e : Expr) (o : Option Expr) → expr_fits run_limit (substituted b e) s ≡ true → fits_if o s ≡ true → fits_if (cond v (Some (substituted b e)) o) s ≡ true
    fits-chosen true e o h k = h
    fits-chosen false e o h k = k

    pub fits-put : (p : Location) (e : Expr) → expr_fits run_limit e (after b s) ≡ true → (l : Location) → fits_if (put b p (Some (substituted b e)) l) s ≡ true
    unfolding meaning_definitions
    fits-put p e h l = fits-chosen (same_location p l) e (b l) (fits-after e h) (fits l)
