-- One more term or factor of literals.
use Rattle.std.proofs.Common.{◌≡◌, ℕ, ◌+◌, ◌<◌, ◌≤◌, ℤ, ◌+ℤ◌, ◌*ℤ◌, true, Some, None, List, map, drop, get_or, length, sym, ap, ◌∙◌, subst}
use Rattle.std.proofs.lemmas.Bool.{and_parts}
use Rattle.homeo_lemmas.proofs.Lists.{map_drop_past}
use Rattle.homeo_syntax.specs.Key.{definitions as syntax_definitions}
use Rattle.homeo_syntax.specs.LowView.{low_exprs, plain_lexpr}
use Rattle.homeo_syntax.specs.Low as l
use Rattle.homeo_syntax.specs.declared.low.LExpr.{LExpr}
use Rattle.homeo_meaning.specs.Key.{definitions as meaning_definitions}
use Rattle.homeo_meaning.specs.Small.{is_small}
use Rattle.homeo_meaning.proofs.Steps.{drop_next}
use Rattle.homeo_split.specs.Key.{definitions as split_definitions}
use Rattle.homeo_split.specs.CanExec.{run_limit, sum_fits, product_fits}
use Rattle.homeo_effect.specs.Key.{definitions}
use Rattle.homeo_effect.specs.Localized.{literal_sum, literal_product}
use Rattle.homeo_effect.specs.inner.Alone.{SumFits, ProductFits}
use Rattle.homeo_effect.specs.inner.Literals.{literal_of}
use Rattle.homeo_effect.proofs.Literals.{literal_is, no_sum, no_product}

-- what a sum or a product begins with is small
sum_begins : (n : ℤ) (ts : l.Exprs) → SumFits n ts → is_small run_limit n ≡ true
unfolding definitions split_definitions
sum_begins n l.NoExpr f = f.1
sum_begins n (l.MoreExpr e ts) f = (and_parts (is_small run_limit n) _ f.1).0

product_begins : (n : ℤ) (ts : l.Exprs) → ProductFits n ts → is_small run_limit n ≡ true
unfolding definitions split_definitions
product_begins n l.NoExpr f = f.1
product_begins n (l.MoreExpr e ts) f = (and_parts (is_small run_limit n) _ f.1).0

-- n and k, and then the rest
pub record SumStep (n k : ℤ) (es : List LExpr) (i : ℕ) : Type 0 where
  pub small : is_small run_limit (n +ℤ k) ≡ true
  pub fits : SumFits (n +ℤ k) (low_exprs (map plain_lexpr (drop (i + 1) es)))
  pub same : literal_sum (n +ℤ k) (low_exprs (map plain_lexpr (drop (i + 1) es))) ≡ literal_sum n (low_exprs (map plain_lexpr (drop i es)))

pub record ProductStep (n k : ℤ) (es : List LExpr) (i : ℕ) : Type 0 where
  pub small : is_small run_limit (n *ℤ k) ≡ true
  pub fits : ProductFits (n *ℤ k) (low_exprs (map plain_lexpr (drop (i + 1) es)))
  pub same : literal_product (n *ℤ k) (low_exprs (map plain_lexpr (drop (i + 1) es))) ≡ literal_product n (low_exprs (map plain_lexpr (drop i es)))

module _ (es : List LExpr) (i : ℕ) (e : LExpr) (h : i < length es) (p : e ≡ get_or es i e) where
  next : low_exprs (map plain_lexpr (drop i es)) ≡ l.MoreExpr (plain_lexpr e) (low_exprs (map plain_lexpr (drop (i + 1) es)))
  unfolding syntax_definitions
  next = ap low_exprs (drop_next plain_lexpr es i e h p)

  pub sum_step : (n k : ℤ) → Some k ≡ literal_of (plain_lexpr e) → SumFits n (low_exprs (map plain_lexpr (drop i es))) → SumStep n k es i
  unfolding definitions meaning_definitions split_definitions
  sum_step n k q f =
      let rest = low_exprs (map plain_lexpr (drop (i + 1) es)) in
      let is = next ∙ ap (λ d. l.MoreExpr d rest) (literal_is (plain_lexpr e) k q) in
      let g : sum_fits run_limit n (l.MoreExpr (l.Literal k) rest) f.0 ≡ true = subst (λ ts. sum_fits run_limit n ts f.0 ≡ true) is f.1 in
      let more = (and_parts (is_small run_limit k) _ (and_parts (is_small run_limit n) _ g).1).1 in
      record { small = sum_begins (n +ℤ k) rest (f.0, more); fits = (f.0, more); same = ap (literal_sum n) (sym is) }

  pub sum_ends : (n : ℤ) → None ≡ literal_of (plain_lexpr e) → None ≡ literal_sum n (low_exprs (map plain_lexpr (drop i es)))
  sum_ends n q = sym (ap (literal_sum n) next ∙ no_sum (plain_lexpr e) _ n q)

  pub product_step : (n k : ℤ) → Some k ≡ literal_of (plain_lexpr e) → ProductFits n (low_exprs (map plain_lexpr (drop i es))) → ProductStep n k es i
  unfolding definitions meaning_definitions split_definitions
  product_step n k q f =
      let rest = low_exprs (map plain_lexpr (drop (i + 1) es)) in
      let is = next ∙ ap (λ d. l.MoreExpr d rest) (literal_is (plain_lexpr e) k q) in
      let g : product_fits run_limit n (l.MoreExpr (l.Literal k) rest) f.0 ≡ true = subst (λ ts. product_fits run_limit n ts f.0 ≡ true) is f.1 in
      let more = (and_parts (is_small run_limit k) _ (and_parts (is_small run_limit n) _ g).1).1 in
      record { small = product_begins (n *ℤ k) rest (f.0, more); fits = (f.0, more); same = ap (literal_product n) (sym is) }

  pub product_ends : (n : ℤ) → None ≡ literal_of (plain_lexpr e) → None ≡ literal_product n (low_exprs (map plain_lexpr (drop i es)))
  product_ends n q = sym (ap (literal_product n) next ∙ no_product (plain_lexpr e) _ n q)

pub sum_done : (n : ℤ) (es : List LExpr) (i : ℕ) → length es ≤ i → Some n ≡ literal_sum n (low_exprs (map plain_lexpr (drop i es)))
unfolding definitions syntax_definitions
sum_done n es i h = sym (ap (λ ts. literal_sum n (low_exprs ts)) (map_drop_past plain_lexpr es i h))

pub product_done : (n : ℤ) (es : List LExpr) (i : ℕ) → length es ≤ i → Some n ≡ literal_product n (low_exprs (map plain_lexpr (drop i es)))
unfolding definitions syntax_definitions
product_done n es i h = sym (ap (λ ts. literal_product n (low_exprs ts)) (map_drop_past plain_lexpr es i h))
