-- The first of the phrases that a loop has left.
use Rattle.std.proofs.Common.{◌≡◌, ℕ, ◌+◌, ◌<◌, ◌≤◌, ℤ, ◌+ℤ◌, ◌*ℤ◌, Bool, true, ◌&&◌, List, [], ◌∷◌, map, drop, get_or, length, sym, ap, ◌∙◌, subst}
use Rattle.std.proofs.lemmas.Bool.{and_parts}
use Rattle.homeo_lemmas.proofs.Lists.{map_drop_past}
use Rattle.homeo_syntax.specs.Source as source
use Rattle.homeo_syntax.specs.SourceView.{exprs, tests, plain_expr, plain_test}
use Rattle.homeo_syntax.specs.declared.phrase.Expr.{Expr}
use Rattle.homeo_syntax.specs.declared.phrase.Test.{Test}
use Rattle.homeo_meaning.specs.Context.{Context}
use Rattle.homeo_meaning.specs.Meaning.{State, value, sum_value, product_value, passes, holds}
use Rattle.homeo_meaning.specs.Small.{is_small}
use Rattle.homeo_eval.specs.inner.CanRun.{expr_fits, sum_fits, product_fits, test_fits, cond_fits}
use Rattle.homeo_eval.proofs.Equations.{sum_end, sum_more, sum_fits_more, product_end, product_more, product_fits_more, holds_more, cond_fits_more}
use Rattle.homeo_meaning.proofs.Steps.{drop_next}

-- ---- sums and products, each as a fold: the number so far, and what one phrase more makes of it
pub record IsFold (op : ℤ → ℤ → ℤ) (fits : ℕ → Context → source.Exprs → State → ℤ → Bool) (total : Context → source.Exprs → State → ℤ → ℤ) : Type 0 where
  fits_more : (b : ℕ) (x : Context) (s : State) (n : ℤ) (e : source.Expr) (es : List source.Expr) →
      fits b x (exprs (e ∷ es)) s n ≡ expr_fits b x e s && (is_small b (op n (value x e s)) && fits b x (exprs es) s (op n (value x e s)))
  more : (x : Context) (s : State) (n : ℤ) (e : source.Expr) (es : List source.Expr) → total x (exprs (e ∷ es)) s n ≡ total x (exprs es) s (op n (value x e s))
  end : (x : Context) (s : State) (n : ℤ) → total x (exprs []) s n ≡ n

pub sums : IsFold ◌+ℤ◌ sum_fits sum_value
sums = record { fits_more = sum_fits_more; more = sum_more; end = sum_end }

pub products : IsFold ◌*ℤ◌ product_fits product_value
products = record { fits_more = product_fits_more; more = product_more; end = product_end }

module _ {op : ℤ → ℤ → ℤ} {fits : ℕ → Context → source.Exprs → State → ℤ → Bool} {total : Context → source.Exprs → State → ℤ → ℤ} (fold : IsFold op fits total) where
  -- the phrases from a place on
  abbrev From : List Expr → ℕ → source.Exprs
  From es i = exprs (map plain_expr (drop i es))

  -- one phrase more
  pub record Step (b : ℕ) (x : Context) (s : State) (n : ℤ) (es : List Expr) (i : ℕ) (e : Expr) : Type 0 where
    pub first : expr_fits b x (plain_expr e) s ≡ true
    pub small : is_small b (op n (value x (plain_expr e) s)) ≡ true
    pub rest : fits b x (From es (i + 1)) s (op n (value x (plain_expr e) s)) ≡ true
    pub same : total x (From es (i + 1)) s (op n (value x (plain_expr e) s)) ≡ total x (From es i) s n

  pub step : {b : ℕ} {x : Context} {s : State} {n : ℤ} (es : List Expr) (i : ℕ) (e : Expr) → i < length es → e ≡ get_or es i e →
      fits b x (From es i) s n ≡ true → Step b x s n es i e
  step {b} {x} {s} {n} es i e h p fit =
      let next = drop_next plain_expr es i e h p in
      let others = map plain_expr (drop (i + 1) es) in
      let k = and_parts _ _ (sym (fold.fits_more b x s n (plain_expr e) others) ∙ ap (λ l. fits b x (exprs l) s n) (sym next) ∙ fit) in
      let m = and_parts _ _ k.1 in
      record {
        first = k.0;
        small = m.0;
        rest = m.1;
        same = sym (fold.more x s n (plain_expr e) others) ∙ ap (λ l. total x (exprs l) s n) (sym next);
      }

  -- the number so far with one phrase more
  pub step_next : {b : ℕ} {x : Context} {s : State} {n m : ℤ} {es : List Expr} {i : ℕ} {e : Expr} → Step b x s n es i e → m ≡ op n (value x (plain_expr e) s) →
      (fits b x (From es (i + 1)) s m ≡ true) × (total x (From es (i + 1)) s m ≡ total x (From es i) s n)
  step_next {b} {x} {s} {n} {m} {es} {i} {e} k p =
      (subst (λ v. fits b x (From es (i + 1)) s v ≡ true) (sym p) k.rest, ap (total x (From es (i + 1)) s) p ∙ k.same)

  pub stop : (x : Context) (s : State) (n : ℤ) (es : List Expr) (i : ℕ) → length es ≤ i → n ≡ total x (From es i) s n
  stop x s n es i h = sym (ap (λ l. total x (exprs l) s n) (map_drop_past plain_expr es i h) ∙ fold.end x s n)

-- one more test of a condition
pub record TestStep (b : ℕ) (x : Context) (s : State) (ts : List Test) (i : ℕ) (t : Test) : Type 0 where
  pub first : test_fits b x (plain_test t) s ≡ true
  pub rest : cond_fits b x (tests (map plain_test (drop (i + 1) ts))) s ≡ true
  pub same : holds x (tests (map plain_test (drop i ts))) s ≡ (passes x (plain_test t) s && holds x (tests (map plain_test (drop (i + 1) ts))) s)

pub test_step : {b : ℕ} {x : Context} {s : State} (ts : List Test) (i : ℕ) (t : Test) → i < length ts → t ≡ get_or ts i t → cond_fits b x (tests (map plain_test (drop i ts))) s ≡ true → TestStep b x s ts i t
test_step {b} {x} {s} ts i t h p fits =
    let next = drop_next plain_test ts i t h p in
    let k = and_parts _ _ (sym (cond_fits_more b x s (plain_test t) (map plain_test (drop (i + 1) ts))) ∙ ap (λ l. cond_fits b x (tests l) s) (sym next) ∙ fits) in
    record { first = k.0; rest = k.1; same = ap (λ l. holds x (tests l) s) next ∙ holds_more x s (plain_test t) (map plain_test (drop (i + 1) ts)) }
