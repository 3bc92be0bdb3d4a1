-- The first of the phrases that are left.
use Rattle.std.proofs.Common.{◌≡◌, ℕ, ◌+◌, ◌<◌, ◌≤◌, ℤ, ◌+ℤ◌, ◌*ℤ◌, Bool, true, cond, ◌&&◌, List, [], ◌∷◌, map, drop, get_or, length, sym, ap, ◌∙◌, subst}
use Rattle.std.proofs.lemmas.Bool.{and_parts}
use Rattle.homeo_lemmas.proofs.Lists.{map_drop_past}
use Rattle.homeo_syntax.specs.Low as l
use Rattle.homeo_syntax.specs.LowView.{low_exprs, low_tests, plain_lexpr, plain_ltest}
use Rattle.homeo_syntax.specs.declared.low.LExpr.{LExpr}
use Rattle.homeo_syntax.specs.declared.low.LTest.{LTest}
use Rattle.homeo_meaning.specs.LowMeaning.{State, value, sum_value, product_value, passes, holds}
use Rattle.homeo_meaning.specs.Small.{is_small}
use Rattle.homeo_meaning.proofs.Steps.{drop_next}
use Rattle.homeo_split.specs.Key.{definitions}
use Rattle.homeo_split.specs.CanExec.{expr_fits, sum_fits, product_fits, test_fits, cond_fits}
use Rattle.homeo_split.proofs.Equations.{sum_end, sum_more, sum_fits_more, product_end, product_more, product_fits_more, holds_more, cond_fits_more}

-- the number that a sum begins with is small
sum_small : (b : ℕ) (es : l.Exprs) (s : State) (n : ℤ) → sum_fits b n es s ≡ true → is_small b n ≡ true
unfolding definitions
sum_small b l.NoExpr s n h = h
sum_small b (l.MoreExpr e es) s n h = (and_parts (is_small b n) _ h).0

product_small : (b : ℕ) (es : l.Exprs) (s : State) (n : ℤ) → product_fits b n es s ≡ true → is_small b n ≡ true
unfolding definitions
product_small b l.NoExpr s n h = h
product_small b (l.MoreExpr e es) s n h = (and_parts (is_small b n) _ h).0

-- ---- sums and products, each as a fold: the number so far, and what one phrase more makes of it
pub record IsFold (op : ℤ → ℤ → ℤ) (fits : ℕ → ℤ → l.Exprs → State → Bool) (total : ℤ → l.Exprs → State → ℤ) : Type 0 where
  small : (b : ℕ) (es : l.Exprs) (s : State) (n : ℤ) → fits b n es s ≡ true → is_small b n ≡ true
  fits_more : (b : ℕ) (s : State) (n : ℤ) (e : l.Expr) (es : List l.Expr) →
      fits b n (low_exprs (e ∷ es)) s ≡ is_small b n && (expr_fits b e s && fits b (op n (value e s)) (low_exprs es) s)
  more : (s : State) (n : ℤ) (e : l.Expr) (es : List l.Expr) → total n (low_exprs (e ∷ es)) s ≡ total (op n (value e s)) (low_exprs es) s
  end : (s : State) (n : ℤ) → total n (low_exprs []) s ≡ n

pub sums : IsFold ◌+ℤ◌ sum_fits sum_value
sums = record { small = sum_small; fits_more = sum_fits_more; more = sum_more; end = sum_end }

pub products : IsFold ◌*ℤ◌ product_fits product_value
products = record { small = product_small; fits_more = product_fits_more; more = product_more; end = product_end }

module _ {op : ℤ → ℤ → ℤ} {fits : ℕ → ℤ → l.Exprs → State → Bool} {total : ℤ → l.Exprs → State → ℤ} (fold : IsFold op fits total) where
  -- the phrases from a place on
  abbrev From : List LExpr → ℕ → l.Exprs
  From es i = low_exprs (map plain_lexpr (drop i es))

  -- one phrase more
  pub record Step (b : ℕ) (s : State) (n : ℤ) (es : List LExpr) (i : ℕ) (e : LExpr) : Type 0 where
    pub first : expr_fits b (plain_lexpr e) s ≡ true
    pub small : is_small b (op n (value (plain_lexpr e) s)) ≡ true
    pub rest : fits b (op n (value (plain_lexpr e) s)) (From es (i + 1)) s ≡ true
    pub same : total (op n (value (plain_lexpr e) s)) (From es (i + 1)) s ≡ total n (From es i) s

  pub step : {b : ℕ} {s : State} {n : ℤ} (es : List LExpr) (i : ℕ) (e : LExpr) → i < length es → e ≡ get_or es i e →
      fits b n (From es i) s ≡ true → Step b s n es i e
  step {b} {s} {n} es i e h p fit =
      let next = drop_next plain_lexpr es i e h p in
      let others = map plain_lexpr (drop (i + 1) es) in
      let k = and_parts _ _ (sym (fold.fits_more b s n (plain_lexpr e) others) ∙ ap (λ l. fits b n (low_exprs l) s) (sym next) ∙ fit) in
      let m = and_parts _ _ k.1 in
      record {
        first = m.0;
        small = fold.small b _ s _ m.1;
        rest = m.1;
        same = sym (fold.more s n (plain_lexpr e) others) ∙ ap (λ l. total n (low_exprs l) s) (sym next);
      }

  -- the number so far with one phrase more
  pub step_next : {b : ℕ} {s : State} {n m : ℤ} {es : List LExpr} {i : ℕ} {e : LExpr} → Step b s n es i e → m ≡ op n (value (plain_lexpr e) s) →
      (fits b m (From es (i + 1)) s ≡ true) × (total m (From es (i + 1)) s ≡ total n (From es i) s)
  step_next {b} {s} {n} {m} {es} {i} {e} k p =
      (subst (λ v. fits b v (From es (i + 1)) s ≡ true) (sym p) k.rest, ap (λ v. total v (From es (i + 1)) s) p ∙ k.same)

  pub stop : (s : State) (n : ℤ) (es : List LExpr) (i : ℕ) → length es ≤ i → n ≡ total n (From es i) s
  stop s n es i h = sym (ap (λ l. total n (low_exprs l) s) (map_drop_past plain_lexpr es i h) ∙ fold.end s n)

-- one more test of a condition
pub record TestStep (b : ℕ) (s : State) (ts : List LTest) (i : ℕ) (t : LTest) : Type 0 where
  pub first : test_fits b (plain_ltest t) s ≡ true
  pub rest : passes (plain_ltest t) s ≡ true → cond_fits b (low_tests (map plain_ltest (drop (i + 1) ts))) s ≡ true
  pub same : holds (low_tests (map plain_ltest (drop i ts))) s ≡ (passes (plain_ltest t) s && holds (low_tests (map plain_ltest (drop (i + 1) ts))) s)

pub test_step : {b : ℕ} {s : State} (ts : List LTest) (i : ℕ) (t : LTest) → i < length ts → t ≡ get_or ts i t
    → cond_fits b (low_tests (map plain_ltest (drop i ts))) s ≡ true → TestStep b s ts i t
test_step {b} {s} ts i t h p fits =
    let next = drop_next plain_ltest ts i t h p in
    let k = and_parts _ _ (sym (cond_fits_more b s (plain_ltest t) (map plain_ltest (drop (i + 1) ts)))
    ∙ ap (λ l. cond_fits b (low_tests l) s) (sym next) ∙ fits) in
    record {
      first = k.0;
      rest = λ q. sym (ap (λ v. cond v (cond_fits b (low_tests (map plain_ltest (drop (i + 1) ts))) s) true) q) ∙ k.1;
      same = ap (λ l. holds (low_tests l) s) next ∙ holds_more s (plain_ltest t) (map plain_ltest (drop (i + 1) ts));
    }
