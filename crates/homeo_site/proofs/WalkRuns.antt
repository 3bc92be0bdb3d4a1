-- Where a command can be run, so can the residual of the row that it takes.
use Rattle.std.proofs.Common.{◌≡◌, ℕ, Bool, true, false, cond, refl, ap₂, ◌&&◌}
use Rattle.std.proofs.lemmas.Bool.{and_parts}
use Rattle.homeo_syntax.specs.Low.{Command, Commands, Skip, Assign, Write, Print, Seq, If, NoCommand, MoreCommand}
use Rattle.homeo_meaning.specs.Key.{definitions as meaning_definitions}
use Rattle.homeo_meaning.specs.LowMeaning.{State, holds, exec, exec_all}
use Rattle.homeo_plan.specs.Key.{definitions as plan_definitions}
use Rattle.homeo_plan.specs.Table.{Row, last_row, test_before, otherwise, walk, walk_before, walk_all_before}
use Rattle.homeo_split.specs.Key.{definitions as split_definitions}
use Rattle.homeo_split.specs.CanExec.{cond_fits, can_exec, can_exec_all}

module _ (b : ℕ) where
  -- the row's residual can be run
  CanFollow : Row → State → Type 0
  CanFollow r s = can_exec_all b r.residual s ≡ true

  mutual
    unfolding plan_definitions meaning_definitions split_definitions CanFollow

    walk_runs : (c : Command) (s : State) (r : Row) → can_exec b c s ≡ true → CanFollow r (exec c s).state → CanFollow (walk_before c s r) s
    walk_runs Skip s r e h = h
    walk_runs (Assign t x) s r e h = ap₂ ◌&&◌ e h
    walk_runs (Write n x) s r e h = ap₂ ◌&&◌ e h
    walk_runs (Print x) s r e h = ap₂ ◌&&◌ e h
    walk_runs (Seq cs) s r e h = walks_run cs s r e h
    walk_runs (If t c d) s r e h =
        let k = and_parts (cond_fits b t s) (cond (holds t s) (can_exec b c s) (can_exec b d s)) e in
        choose (holds t s) (walk_runs c s r) (walk_runs d s r) k.1 h
      where
        choose :
            (v : Bool) → (can_exec b c s ≡ true → CanFollow r (exec c s).state → CanFollow (walk_before c s r) s) →
            (can_exec b d s ≡ true → CanFollow r (exec d s).state → CanFollow (walk_before d s r) s) →
            cond v (can_exec b c s) (can_exec b d s) ≡ true → CanFollow r (cond v (exec c s) (exec d s)).state →
            CanFollow (cond v (test_before t (walk_before c s r)) (test_before (otherwise t) (walk_before d s r))) s
        choose true f g x y = f x y
        choose false f g x y = g x y

    walks_run : (cs : Commands) (s : State) (r : Row) → can_exec_all b cs s ≡ true → CanFollow r (exec_all cs s).state → CanFollow (walk_all_before cs s r) s
    walks_run NoCommand s r e h = h
    walks_run (MoreCommand c cs) s r e h =
        let k = and_parts (can_exec b c s) (can_exec_all b cs (exec c s).state) e in
        walk_runs c s (walk_all_before cs (exec c s).state r) k.0 (walks_run cs (exec c s).state r k.1 h)

  pub residual_runs : (c : Command) (s : State) → can_exec b c s ≡ true → can_exec_all b (walk c s).residual s ≡ true
  unfolding plan_definitions meaning_definitions split_definitions CanFollow
  residual_runs c s e = walk_runs c s last_row e refl
