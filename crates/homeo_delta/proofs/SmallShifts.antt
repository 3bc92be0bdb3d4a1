-- A transformed command computes small numbers where the given one does on the fold, and the parts are small.
use Rattle.std.proofs.Common.{◌≡◌, ℕ, ◌+◌, ◌*◌, ◌<◌, ◌≤◌, true, ℤ, pos, ◌+ℤ◌, ◌*ℤ◌, neg_ℤ, refl, sym, subst, arith}
use Rattle.std.specs.Int.RustNames.{unsigned_abs}
use Rattle.homeo_lemmas.proofs.Bools.{cond_holds, both}
use Rattle.homeo_syntax.specs.declared.low.SplitName.TheVariants.{Whole, Base, Delta}
use Rattle.homeo_syntax.specs.Low.{Expr, Exprs, Literal, OfTemp, Read, Sum, Product, Neg, NoExpr, MoreExpr, Test, Cond, True, Not, Comparison, NoTest, MoreTest, Command, Commands, Skip, Assign, Write, Print, Seq, If, NoCommand, MoreCommand}
use Rattle.homeo_meaning.specs.Key.{definitions as meaning_definitions}
use Rattle.homeo_meaning.specs.LowComputed.{CanValue, CanSum, CanProduct, CanPass, CanHold, CanRun, CanRunAll}
use Rattle.homeo_meaning.specs.LowMeaning.{TempAt, BaseAt, DeltaAt, State, value, passes, holds, exec}
use Rattle.homeo_meaning.specs.Small.{IsSmall, is_small}
use Rattle.homeo_meaning.specs.Whole.{IsWhole}
use Rattle.homeo_meaning.proofs.Parts.{IsWholeExpr, AreWholeExprs, IsWholeTest, IsWholeCond, AreWhole}
use Rattle.homeo_plan.specs.Key.{definitions}
use Rattle.homeo_plan.specs.Split.{fold_state, shift_expr, shift_exprs, shift_test, shift_cond, shift, shift_all}
use Rattle.homeo_plan.proofs.Shift.{value_shift, shift_follows}
use Rattle.homeo_split.specs.Key.{definitions as split_definitions}
use Rattle.homeo_split.specs.CanExec.{run_limit, expr_fits, sum_fits, product_fits, test_fits, cond_fits, can_exec, can_exec_all}
use Rattle.homeo_delta.specs.SmallParts.{HasSmallParts}
use Rattle.homeo_delta.proofs.SmallSites.{fits, read_fits, write_fits}
use Rattle.homeo_delta.proofs.SmallValues.{value_small, objects_small}

module _ (k i a b : ℕ) (site : i < k) (some : 1 ≤ b) where
  parts_stay_small :
      (c : Command) (s : State) → IsWhole c → HasSmallParts k i a b s → CanRun (IsSmall b) (IsSmall b) c (fold_state k s) →
      HasSmallParts k i a b (exec (shift k i c) s).state
  unfolding definitions meaning_definitions
  parts_stay_small c s w h r =
      let f = shift_follows k i site c s w in
      record {
        fold = λ x. subst (λ (u : State). unsigned_abs (u (BaseAt x)) ≤ b) (sym f.folds) (objects_small b some c (fold_state k s) w h.fold r x);
        bases = λ x. subst (λ v. unsigned_abs v ≤ a) (sym (f.kept (BaseAt x) tt)) (h.bases x);
        others = λ x j lt apart. subst (λ v. unsigned_abs v ≤ a) (sym (f.kept (DeltaAt x j) apart)) (h.others x j lt apart);
      }

  module _ (within : b + k * a ≤ run_limit) where
    -- ---- phrases
    met : (v : ℤ) → unsigned_abs v ≤ b → is_small run_limit v ≡ true
    met v h = fits k i a b site within v (omega arith)

    mutual
      unfolding definitions meaning_definitions split_definitions

      value_fits : (e : Expr) (s : State) → HasSmallParts k i a b s → IsWholeExpr e → CanValue (IsSmall b) (IsSmall b) e (fold_state k s) → expr_fits run_limit (shift_expr k e) s ≡ true
      value_fits (Literal n) s h w c = met n c
      value_fits (OfTemp t) s h w c = met (s (TempAt t)) c
      value_fits (Read (Whole x)) s h w c = read_fits k i a b site within s h x
      value_fits (Read (Base x)) s h w c = absurd w
      value_fits (Read (Delta x j)) s h w c = absurd w
      value_fits (Sum es) s h w c = terms_fit es (pos 0) s h w (met (pos 0) (omega arith)) c
      value_fits (Product es) s h w c = factors_fit es (pos 1) s h w (met (pos 1) some) c
      value_fits (Neg e) s h w c =
          both (value_fits e s h w c.0)
          (subst (λ v. is_small run_limit (neg_ℤ v) ≡ true) (sym (value_shift k e s w)) (met (neg_ℤ (value e (fold_state k s))) c.1))

      terms_fit :
          (es : Exprs) (n : ℤ) (s : State) → HasSmallParts k i a b s → AreWholeExprs es → is_small run_limit n ≡ true →
          CanSum (IsSmall b) (IsSmall b) n es (fold_state k s) → sum_fits run_limit n (shift_exprs k es) s ≡ true
      terms_fit NoExpr n s h w z c = z
      terms_fit (MoreExpr e es) n s h w z c =
          both z
          (both (value_fits e s h w.0 c.0)
          (subst (λ v. sum_fits run_limit (n +ℤ v) (shift_exprs k es) s ≡ true) (sym (value_shift k e s w.0))
          (terms_fit es (n +ℤ value e (fold_state k s)) s h w.1 (met (n +ℤ value e (fold_state k s)) c.1) c.2)))

      factors_fit :
          (es : Exprs) (n : ℤ) (s : State) → HasSmallParts k i a b s → AreWholeExprs es → is_small run_limit n ≡ true →
          CanProduct (IsSmall b) (IsSmall b) n es (fold_state k s) → product_fits run_limit n (shift_exprs k es) s ≡ true
      factors_fit NoExpr n s h w z c = z
      factors_fit (MoreExpr e es) n s h w z c =
          both z
          (both (value_fits e s h w.0 c.0)
          (subst (λ v. product_fits run_limit (n *ℤ v) (shift_exprs k es) s ≡ true) (sym (value_shift k e s w.0))
          (factors_fit es (n *ℤ value e (fold_state k s)) s h w.1 (met (n *ℤ value e (fold_state k s)) c.1) c.2)))

    mutual
      unfolding definitions meaning_definitions split_definitions

      pass_fits : (t : Test) (s : State) → HasSmallParts k i a b s → IsWholeTest t → CanPass (IsSmall b) (IsSmall b) t (fold_state k s) → test_fits run_limit (shift_test k t) s ≡ true
      pass_fits True s h w c = refl
      pass_fits (Not d) s h w c = hold_fits d s h w c
      pass_fits (Comparison op x y) s h w c = both (value_fits x s h w.0 c.0) (value_fits y s h w.1 c.1)

      hold_fits : (d : Cond) (s : State) → HasSmallParts k i a b s → IsWholeCond d → CanHold (IsSmall b) (IsSmall b) d (fold_state k s) → cond_fits run_limit (shift_cond k d) s ≡ true
      hold_fits NoTest s h w c = refl
      hold_fits (MoreTest t d) s h w c =
          both (pass_fits t s h w.0 c.0) (cond_holds (passes (shift_test k t) s) _ _ (hold_fits d s h w.1 c.1) refl)

    -- ---- commands
    mutual
      unfolding definitions meaning_definitions split_definitions

      run_fits : (c : Command) (s : State) → HasSmallParts k i a b s → IsWhole c → CanRun (IsSmall b) (IsSmall b) c (fold_state k s) → can_exec run_limit (shift k i c) s ≡ true
      run_fits Skip s h w r = refl
      run_fits (Assign t e) s h w r = value_fits e s h w.1 r
      run_fits (Write (Whole x) e) s h w r =
          write_fits k i a b site within s h x (shift_expr k e) (value_fits e s h w.1 r)
          (subst (λ v. unsigned_abs v ≤ b) (sym (value_shift k e s w.1)) (value_small b some e (fold_state k s) r))
      run_fits (Write (Base x) e) s h w r = absurd w.0
      run_fits (Write (Delta x j) e) s h w r = absurd w.0
      run_fits (Print e) s h w r = value_fits e s h w r
      run_fits (Seq cs) s h w r = runs_fit cs s h w r
      run_fits (If t c d) s h w r =
          both (hold_fits t s h w.0 r.0)
          (cond_holds (holds (shift_cond k t) s) _ _ (run_fits c s h w.1 r.1) (run_fits d s h w.2 r.2))

      runs_fit : (cs : Commands) (s : State) → HasSmallParts k i a b s → AreWhole cs → CanRunAll (IsSmall b) (IsSmall b) cs (fold_state k s) → can_exec_all run_limit (shift_all k i cs) s ≡ true
      runs_fit NoCommand s h w r = refl
      runs_fit (MoreCommand c cs) s h w r =
          let f = shift_follows k i site c s w.0 in
          both (run_fits c s h w.0 r.0)
          (runs_fit cs (exec (shift k i c) s).state (parts_stay_small c s w.0 h r.0) w.1
          (subst (λ u. CanRunAll (IsSmall b) (IsSmall b) cs u) (sym f.folds) r.1))

pub runs_law :
    (k i a b : ℕ) (c : Command) (s : State) → i < k → 1 ≤ b → b + k * a ≤ run_limit → IsWhole c → HasSmallParts k i a b s →
    CanRun (IsSmall b) (IsSmall b) c (fold_state k s) → can_exec run_limit (shift k i c) s ≡ true
runs_law k i a b c s site some within w h r = run_fits k i a b site some within c s h w r

pub leaves_law :
    (k i a b : ℕ) (c : Command) (s : State) → i < k → 1 ≤ b → IsWhole c → HasSmallParts k i a b s →
    CanRun (IsSmall b) (IsSmall b) c (fold_state k s) → HasSmallParts k i a b (exec (shift k i c) s).state
leaves_law k i a b c s site some w h r = parts_stay_small k i a b site some c s w h r
