-- The commands that are made of a residual are those of its site alone.
use Rattle.std.proofs.Common.{◌≡◌, ℕ, ◌==◌, ℤ, pos, Bool, true, false, cond, Option, Some, None, refl, arith}
use Rattle.std.proofs.lemmas.Bool.Decides.{nat_tests}
use Rattle.homeo_lemmas.proofs.Bools.{both}
use Rattle.homeo_syntax.specs.declared.low.SplitName.TheVariants.{Whole, Base, Delta}
use Rattle.homeo_syntax.specs.Low.{Expr, Exprs, Literal, OfTemp, Read, Sum, Product, Neg, NoExpr, MoreExpr, Commands, Skip, Assign, Write, Print, Seq, If, NoCommand, MoreCommand}
use Rattle.homeo_plan.specs.Key.{definitions as plan_definitions}
use Rattle.homeo_plan.specs.Needs.{IsStraight}
use Rattle.homeo_effect.specs.Key.{definitions}
use Rattle.homeo_effect.specs.Localized.{literal_sum, literal_product, literal_or, negated, local_expr, local_exprs, localized}
use Rattle.homeo_effect.specs.OwnCommands.{reads_own, read_own, are_own}
use Rattle.homeo_effect.specs.Touched.{WritesOwn}

own_or : (i : ℕ) (o : Option ℤ) (e : Expr) → reads_own i e ≡ true → reads_own i (literal_or o e) ≡ true
unfolding definitions
own_or i None e h = h
own_or i (Some n) e h = refl

own_negation : (i : ℕ) (e : Expr) → reads_own i e ≡ true → reads_own i (negated e) ≡ true
unfolding definitions
own_negation i (Literal n) h = refl
own_negation i (OfTemp t) h = h
own_negation i (Read x) h = h
own_negation i (Sum es) h = h
own_negation i (Product es) h = h
own_negation i (Neg e) h = h

module _ (b : ℕ → ℤ) (i : ℕ) where
  mutual
    unfolding definitions

    own_expr : (e : Expr) → reads_own i (local_expr b i e) ≡ true
    own_expr (Literal n) = refl
    own_expr (OfTemp t) = refl
    own_expr (Read (Whole x)) = refl
    own_expr (Read (Base x)) = refl
    own_expr (Read (Delta x j)) = go (j == i) refl
      where
        go : (v : Bool) → (j == i) ≡ v → reads_own i (cond v (Read (Delta x j)) (Literal (pos 0))) ≡ true
        go true q = q
        go false q = refl
    own_expr (Sum es) = own_or i (literal_sum (pos 0) (local_exprs b i es)) (Sum (local_exprs b i es)) (own_exprs es)
    own_expr (Product es) = own_or i (literal_product (pos 1) (local_exprs b i es)) (Product (local_exprs b i es)) (own_exprs es)
    own_expr (Neg e) = own_negation i (local_expr b i e) (own_expr e)

    own_exprs : (es : Exprs) → read_own i (local_exprs b i es) ≡ true
    own_exprs NoExpr = refl
    own_exprs (MoreExpr e es) = both (own_expr e) (own_exprs es)

  pub own_commands : (cs : Commands) → IsStraight cs → WritesOwn i cs → are_own i (localized b i cs) ≡ true
  unfolding definitions plan_definitions
  own_commands NoCommand st w = refl
  own_commands (MoreCommand Skip cs) st w = absurd st.0
  own_commands (MoreCommand (Assign t e) cs) st w = both (own_expr e) (own_commands cs st.1 w)
  own_commands (MoreCommand (Write (Whole x) e) cs) st w = absurd st.0
  own_commands (MoreCommand (Write (Base x) e) cs) st w = absurd st.0
  own_commands (MoreCommand (Write (Delta x j) e) cs) st w =
      let here : j ≡ i = w.0 in
      let q : (j == i) ≡ true = grind (arith, nat_tests) in
      both (both q (own_expr e)) (own_commands cs st.1 w.1)
  own_commands (MoreCommand (Print e) cs) st w = both (own_expr e) (own_commands cs st.1 w)
  own_commands (MoreCommand (Seq ds) cs) st w = absurd st.0
  own_commands (MoreCommand (If t c d) cs) st w = absurd st.0
