-- A command whose numbers are small can be run.
use Rattle.std.proofs.Common.{◌≡◌, ℕ, ◌≤◌, ℤ, pos, ◌+ℤ◌, ◌*ℤ◌, neg_ℤ, true, refl, arith}
use Rattle.std.proofs.lemmas.Bool.Decides.{nat_tests}
use Rattle.homeo_lemmas.proofs.Bools.{cond_holds, both}
use Rattle.homeo_syntax.specs.Low.{Expr, Exprs, Literal, OfTemp, Read, Sum, Product, Neg, NoExpr, MoreExpr, Test, Cond, True, Not, Comparison, NoTest, MoreTest, Command, Commands, Skip, Assign, Write, Print, Seq, If, NoCommand, MoreCommand}
use Rattle.homeo_meaning.specs.Key.{definitions as meaning_definitions}
use Rattle.homeo_meaning.specs.Small.{is_small}
use Rattle.homeo_meaning.specs.LowMeaning.{State, TempAt, location_of, value, passes, holds, exec}
use Rattle.homeo_meaning.specs.LowComputed.{CanValue, CanSum, CanProduct, CanPass, CanHold, CanRun, CanRunAll}
use Rattle.homeo_meaning.specs.Small.{IsSmall}
use Rattle.homeo_split.specs.Key.{definitions}
use Rattle.homeo_split.specs.CanExec.{run_limit, expr_fits, sum_fits, product_fits, test_fits, cond_fits, can_exec, can_exec_all}

module _ (b : ℕ) (h : b ≤ run_limit) where
  small : (v : ℤ) → IsSmall b v → is_small run_limit v ≡ true
  unfolding meaning_definitions
  small v p = grind (arith, nat_tests, h, p)

  zero_small : is_small run_limit (pos 0) ≡ true
  unfolding meaning_definitions
  zero_small = refl

  one_small : is_small run_limit (pos 1) ≡ true
  unfolding meaning_definitions
  one_small = refl

  mutual
    unfolding definitions meaning_definitions

    value_fits : (e : Expr) (s : State) → CanValue (IsSmall b) (IsSmall b) e s → expr_fits run_limit e s ≡ true
    value_fits (Literal n) s c = small n c
    value_fits (OfTemp t) s c = small (s (TempAt t)) c
    value_fits (Read x) s c = small (s (location_of x)) c
    value_fits (Sum es) s c = terms_fit es s (pos 0) zero_small c
    value_fits (Product es) s c = factors_fit es s (pos 1) one_small c
    value_fits (Neg e) s c = both (value_fits e s c.0) (small (neg_ℤ (value e s)) c.1)

    terms_fit : (es : Exprs) (s : State) (n : ℤ) → is_small run_limit n ≡ true → CanSum (IsSmall b) (IsSmall b) n es s → sum_fits run_limit n es s ≡ true
    terms_fit NoExpr s n k c = k
    terms_fit (MoreExpr e es) s n k c = both k (both (value_fits e s c.0) (terms_fit es s (n +ℤ value e s) (small (n +ℤ value e s) c.1) c.2))

    factors_fit : (es : Exprs) (s : State) (n : ℤ) → is_small run_limit n ≡ true → CanProduct (IsSmall b) (IsSmall b) n es s → product_fits run_limit n es s ≡ true
    factors_fit NoExpr s n k c = k
    factors_fit (MoreExpr e es) s n k c = both k (both (value_fits e s c.0) (factors_fit es s (n *ℤ value e s) (small (n *ℤ value e s) c.1) c.2))

  mutual
    unfolding definitions meaning_definitions

    pass_fits : (t : Test) (s : State) → CanPass (IsSmall b) (IsSmall b) t s → test_fits run_limit t s ≡ true
    pass_fits True s c = refl
    pass_fits (Not d) s c = hold_fits d s c
    pass_fits (Comparison op x y) s c = both (value_fits x s c.0) (value_fits y s c.1)

    hold_fits : (d : Cond) (s : State) → CanHold (IsSmall b) (IsSmall b) d s → cond_fits run_limit d s ≡ true
    hold_fits NoTest s c = refl
    hold_fits (MoreTest t d) s c = both (pass_fits t s c.0) (cond_holds (passes t s) _ _ (hold_fits d s c.1) refl)

  mutual
    unfolding definitions meaning_definitions

    run_fits : (c : Command) (s : State) → CanRun (IsSmall b) (IsSmall b) c s → can_exec run_limit c s ≡ true
    run_fits Skip s p = refl
    run_fits (Assign t e) s p = value_fits e s p
    run_fits (Write x e) s p = value_fits e s p
    run_fits (Print e) s p = value_fits e s p
    run_fits (Seq cs) s p = runs_fit cs s p
    run_fits (If t c d) s p = both (hold_fits t s p.0) (cond_holds (holds t s) _ _ (run_fits c s p.1) (run_fits d s p.2))

    runs_fit : (cs : Commands) (s : State) → CanRunAll (IsSmall b) (IsSmall b) cs s → can_exec_all run_limit cs s ≡ true
    runs_fit NoCommand s p = refl
    runs_fit (MoreCommand c cs) s p = both (run_fits c s p.0) (runs_fit cs (exec c s).state p.1)

pub small_law : (b : ℕ) (c : Command) (s : State) → b ≤ run_limit → CanRun (IsSmall b) (IsSmall b) c s → can_exec run_limit c s ≡ true
small_law b c s h p = run_fits b h c s p
