-- What a run prints that meets small numbers alone fits i64.
use Rattle.homeo_meaning.specs.Key.{definitions as meaning_definitions}
use Rattle.homeo_plan.specs.Key.{definitions as plan_definitions}
use Rattle.homeo_split.specs.Key.{definitions}
use Rattle.std.proofs.Common.{◌≡◌, Bool, true, false, cond, ◌&&◌, ℤ, pos, neg_ℤ, ◌+ℤ◌, ◌*ℤ◌, FitsSigned}
use Rattle.std.specs.Int.{w64}
use Rattle.std.proofs.lemmas.Bool.{and_parts}
use Rattle.homeo_syntax.specs.Low.{Expr, Exprs, Literal, OfTemp, Read, Sum, Product, Neg, NoExpr, MoreExpr, Command, Commands, Skip, Assign, Write, Print, Seq, If, NoCommand, MoreCommand}
use Rattle.homeo_meaning.specs.LowMeaning.{State, value, sum_value, product_value, holds, exec, exec_all}
use Rattle.homeo_meaning.specs.Small.{is_small}
use Rattle.homeo_plan.specs.Each.{Each}
use Rattle.homeo_plan.proofs.Atoms.{append_each}
use Rattle.homeo_split.specs.CanExec.{run_limit, expr_fits, sum_fits, product_fits, cond_fits, can_exec, can_exec_all}
use Rattle.homeo_split.proofs.Numbers.{small_fits}

mutual
  unfolding definitions meaning_definitions

  value_small : (e : Expr) (s : State) → expr_fits run_limit e s ≡ true → is_small run_limit (value e s) ≡ true
  value_small (Literal n) s h = h
  value_small (OfTemp t) s h = h
  value_small (Read x) s h = h
  value_small (Sum es) s h = sum_small es s (pos 0) h
  value_small (Product es) s h = product_small es s (pos 1) h
  value_small (Neg e) s h = (and_parts (expr_fits run_limit e s) (is_small run_limit (neg_ℤ (value e s))) h).1

  sum_small : (es : Exprs) (s : State) (n : ℤ) → sum_fits run_limit n es s ≡ true → is_small run_limit (sum_value n es s) ≡ true
  sum_small NoExpr s n h = h
  sum_small (MoreExpr e es) s n h =
      let all = and_parts (is_small run_limit n) (expr_fits run_limit e s && sum_fits run_limit (n +ℤ value e s) es s) h in
      sum_small es s (n +ℤ value e s) (and_parts (expr_fits run_limit e s) (sum_fits run_limit (n +ℤ value e s) es s) all.1).1

  product_small : (es : Exprs) (s : State) (n : ℤ) → product_fits run_limit n es s ≡ true → is_small run_limit (product_value n es s) ≡ true
  product_small NoExpr s n h = h
  product_small (MoreExpr e es) s n h =
      let all = and_parts (is_small run_limit n) (expr_fits run_limit e s && product_fits run_limit (n *ℤ value e s) es s) h in
      product_small es s (n *ℤ value e s) (and_parts (expr_fits run_limit e s) (product_fits run_limit (n *ℤ value e s) es s) all.1).1

mutual
  unfolding definitions meaning_definitions plan_definitions

  pub prints_fit : (c : Command) (s : State) → can_exec run_limit c s ≡ true → Each (FitsSigned w64) (exec c s).prints
  prints_fit Skip s h = tt
  prints_fit (Assign t e) s h = tt
  prints_fit (Write x e) s h = tt
  prints_fit (Print e) s h = (small_fits (value e s) (value_small e s h), tt)
  prints_fit (Seq cs) s h = all_prints_fit cs s h
  prints_fit (If t c d) s h =
      go (holds t s) (λ k. prints_fit c s k) (λ k. prints_fit d s k)
      (and_parts (cond_fits run_limit t s) (cond (holds t s) (can_exec run_limit c s) (can_exec run_limit d s)) h).1
    where
      go :
          (v : Bool) → (can_exec run_limit c s ≡ true → Each (FitsSigned w64) (exec c s).prints) →
          (can_exec run_limit d s ≡ true → Each (FitsSigned w64) (exec d s).prints) →
          cond v (can_exec run_limit c s) (can_exec run_limit d s) ≡ true → Each (FitsSigned w64) (cond v (exec c s) (exec d s)).prints
      go true left right k = left k
      go false left right k = right k

  all_prints_fit : (cs : Commands) (s : State) → can_exec_all run_limit cs s ≡ true → Each (FitsSigned w64) (exec_all cs s).prints
  all_prints_fit NoCommand s h = tt
  all_prints_fit (MoreCommand c cs) s h =
      let both = and_parts (can_exec run_limit c s) (can_exec_all run_limit cs (exec c s).state) h in
      append_each (FitsSigned w64) (exec c s).prints (exec_all cs (exec c s).state).prints (prints_fit c s both.0)
      (all_prints_fit cs (exec c s).state both.1)
