-- The numbers of a phrase are small in a state of the site: so are those of its parts, and of its parts at the site.
use Rattle.std.proofs.Common.{◌≡◌, ℕ, ℤ, pos, neg_ℤ, true, All, List, [], ◌∷◌, map, sym, ap, ◌∙◌, subst}
use Rattle.std.proofs.lemmas.Bool.{and_parts}
use Rattle.std.proofs.lemmas.List.Elements.{All-nil, All-cons}
use Rattle.homeo_syntax.specs.Key.{definitions as syntax_definitions}
use Rattle.homeo_syntax.specs.LowView.{low_exprs, plain_lexpr}
use Rattle.homeo_syntax.specs.Low as l
use Rattle.homeo_syntax.specs.declared.low.LExpr.{LExpr}
use Rattle.homeo_syntax.specs.declared.low.SplitName.{SplitName}
use Rattle.homeo_syntax.specs.declared.low.Temp.{Temp}
use Rattle.homeo_meaning.specs.LowMeaning.{State, value}
use Rattle.homeo_meaning.specs.Small.{is_small}
use Rattle.homeo_split.specs.Key.{definitions as split_definitions}
use Rattle.homeo_split.specs.CanExec.{run_limit, expr_fits, sum_fits, product_fits}
use Rattle.homeo_effect.specs.Localized.{local_expr}
use Rattle.homeo_effect.specs.inner.Alone.{IsAlone, Fits, SumFits, ProductFits, NegationFits, CommandFits}
use Rattle.homeo_effect.proofs.Equations.{local_low_exprs}
use Rattle.homeo_effect.proofs.Localizing.{same_value, sum_fits_too, product_fits_too}

module _ (b : ℕ → ℤ) (i : ℕ) where
  terms_fit_in :
      (s : State) → IsAlone b i s → (es : List LExpr) (n : ℤ) → sum_fits run_limit n (low_exprs (map plain_lexpr es)) s ≡ true →
      All (λ e. Fits b i (plain_lexpr e)) es
  unfolding syntax_definitions split_definitions
  terms_fit_in s a [] n f = All-nil (λ e. Fits b i (plain_lexpr e))
  terms_fit_in s a (e ∷ es) n f =
      let more = and_parts (expr_fits run_limit (plain_lexpr e) s) _ (and_parts (is_small run_limit n) _ f).1 in
      All-cons (λ e. Fits b i (plain_lexpr e)) e es (s, a, more.0) (terms_fit_in s a es _ more.1)

  factors_fit_in :
      (s : State) → IsAlone b i s → (es : List LExpr) (n : ℤ) → product_fits run_limit n (low_exprs (map plain_lexpr es)) s ≡ true →
      All (λ e. Fits b i (plain_lexpr e)) es
  unfolding syntax_definitions split_definitions
  factors_fit_in s a [] n f = All-nil (λ e. Fits b i (plain_lexpr e))
  factors_fit_in s a (e ∷ es) n f =
      let more = and_parts (expr_fits run_limit (plain_lexpr e) s) _ (and_parts (is_small run_limit n) _ f).1 in
      All-cons (λ e. Fits b i (plain_lexpr e)) e es (s, a, more.0) (factors_fit_in s a es _ more.1)

  pub terms_fit : (es : List LExpr) → Fits b i (l.Sum (low_exprs (map plain_lexpr es))) → All (λ e. Fits b i (plain_lexpr e)) es
  unfolding split_definitions
  terms_fit es f = terms_fit_in f.0 f.1 es (pos 0) f.2

  pub factors_fit : (es : List LExpr) → Fits b i (l.Product (low_exprs (map plain_lexpr es))) → All (λ e. Fits b i (plain_lexpr e)) es
  unfolding split_definitions
  factors_fit es f = factors_fit_in f.0 f.1 es (pos 1) f.2

  pub part_fits : (e : l.Expr) → Fits b i (l.Neg e) → Fits b i e
  unfolding split_definitions
  part_fits e f = (f.0, f.1, (and_parts (expr_fits run_limit e f.0) _ f.2).0)

  pub local_terms_fit :
      (es : List l.Expr) (ds : List l.Expr) → ds ≡ map (local_expr b i) es → Fits b i (l.Sum (low_exprs es)) → SumFits (pos 0) (low_exprs ds)
  unfolding split_definitions
  local_terms_fit es ds h f = (
    f.0,
    subst (λ ts. sum_fits run_limit (pos 0) ts f.0 ≡ true) (local_low_exprs b i es ∙ ap low_exprs (sym h))
        (sum_fits_too b i f.0 f.1 run_limit (low_exprs es) (pos 0) f.2),
  )

  pub local_factors_fit :
      (es : List l.Expr) (ds : List l.Expr) → ds ≡ map (local_expr b i) es → Fits b i (l.Product (low_exprs es)) → ProductFits (pos 1) (low_exprs ds)
  unfolding split_definitions
  local_factors_fit es ds h f = (
    f.0,
    subst (λ ts. product_fits run_limit (pos 1) ts f.0 ≡ true) (local_low_exprs b i es ∙ ap low_exprs (sym h))
        (product_fits_too b i f.0 f.1 run_limit (low_exprs es) (pos 1) f.2),
  )

  pub local_negation_fits : (e d : l.Expr) → d ≡ local_expr b i e → Fits b i (l.Neg e) → NegationFits d
  unfolding split_definitions
  local_negation_fits e d h f = (
    f.0,
    subst (λ v. is_small run_limit (neg_ℤ v) ≡ true) (sym (ap (λ e. value e f.0) h ∙ same_value b i f.0 f.1 e))
        (and_parts (expr_fits run_limit e f.0) _ f.2).1,
  )

  -- ---- commands
  pub assigned_fits : (t : Temp) (e : l.Expr) → CommandFits b i (l.Assign t e) → Fits b i e
  unfolding split_definitions
  assigned_fits t e f = f

  pub written_fits : (x : SplitName) (e : l.Expr) → CommandFits b i (l.Write x e) → Fits b i e
  unfolding split_definitions
  written_fits x e f = f

  pub printed_fits : (e : l.Expr) → CommandFits b i (l.Print e) → Fits b i e
  unfolding split_definitions
  printed_fits e f = f
