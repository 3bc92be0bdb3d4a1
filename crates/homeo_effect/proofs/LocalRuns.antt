-- The commands of a site run there as the residual does.
use Rattle.std.proofs.Common.{◌≡◌, ℕ, ◌==◌, ℤ, pos, true, false, cond, ◌&&◌, All, List, [], ◌∷◌, map, refl, sym, ap, ◌∙◌, subst, arith}
use Rattle.std.proofs.lemmas.Bool.{and_parts}
use Rattle.std.proofs.lemmas.Bool.Decides.{nat_tests}
use Rattle.std.proofs.lemmas.List.Elements.{All-nil, All-cons}
use Rattle.homeo_lemmas.proofs.Bools.{and_false, both}
use Rattle.homeo_syntax.specs.Key.{definitions as syntax_definitions}
use Rattle.homeo_syntax.specs.LowView.{low_commands, plain_lcommand}
use Rattle.homeo_syntax.specs.declared.low.LCommand.{LCommand}
use Rattle.homeo_syntax.specs.declared.low.SplitName.TheVariants.{Whole, Base, Delta}
use Rattle.homeo_syntax.specs.Low.{Command, Commands, Skip, Assign, Write, Print, Seq, If, NoCommand, MoreCommand}
use Rattle.homeo_meaning.specs.Key.{definitions as meaning_definitions}
use Rattle.homeo_meaning.specs.LowMeaning.{State, Run, TempAt, DeltaAt, location_of, put, value, after_prints, exec, exec_all, whole}
use Rattle.homeo_plan.specs.Key.{definitions as plan_definitions}
use Rattle.homeo_plan.specs.Joined.{Deltas, alone}
use Rattle.homeo_plan.specs.Needs.{IsStraightOne, IsStraight}
use Rattle.homeo_split.specs.Key.{definitions as split_definitions}
use Rattle.homeo_split.specs.CanExec.{run_limit, can_exec, can_exec_all}
use Rattle.homeo_effect.specs.Key.{definitions}
use Rattle.homeo_effect.specs.Localized.{local_command, localized}
use Rattle.homeo_effect.specs.Touched.{with_delta, written, WritesOwn}
use Rattle.homeo_effect.specs.inner.Alone.{IsAlone, CommandFits}
use Rattle.homeo_effect.proofs.Localizing.{same_value, fits_too}

-- ---- where runs begin
pub alone_is_alone : (b : ℕ → ℤ) (i : ℕ) (x : Deltas) → IsAlone b i (alone b i x)
unfolding plan_definitions
alone_is_alone b i x = record { bases = λ y. refl; others = λ y j q. ap (λ v. cond v (x y) (pos 0)) q }

pub whole_is_alone : (b : ℕ → ℤ) (i : ℕ) → IsAlone b i (whole b)
unfolding meaning_definitions
whole_is_alone b i = record { bases = λ y. refl; others = λ y j q. refl }

-- ---- one command
one_own : (i : ℕ) (c : Command) (cs : Commands) → IsStraightOne c → WritesOwn i (MoreCommand c cs) → WritesOwn i (MoreCommand c NoCommand) × WritesOwn i cs
unfolding definitions plan_definitions
one_own i Skip cs st w = absurd st
one_own i (Assign t e) cs st w = (tt, w)
one_own i (Write (Whole x) e) cs st w = absurd st
one_own i (Write (Base x) e) cs st w = absurd st
one_own i (Write (Delta x j) e) cs st w = ((w.0, tt), w.1)
one_own i (Print e) cs st w = (tt, w)
one_own i (Seq ds) cs st w = absurd st
one_own i (If t c d) cs st w = absurd st

module _ (b : ℕ → ℤ) (i : ℕ) where
  stays_alone : (c : Command) (s : State) → IsStraightOne c → WritesOwn i (MoreCommand c NoCommand) → IsAlone b i s → IsAlone b i (exec c s).state
  unfolding definitions plan_definitions meaning_definitions
  stays_alone Skip s st w a = absurd st
  stays_alone (Assign t e) s st w a = record { bases = a.bases; others = a.others }
  stays_alone (Write (Whole x) e) s st w a = absurd st
  stays_alone (Write (Base x) e) s st w a = absurd st
  stays_alone (Write (Delta x j) e) s st w a = record { bases = a.bases; others = λ y k q. other y k q }
    where
      other : (y k : ℕ) → (k == i) ≡ false → cond ((x == y) && (j == k)) (value e s) (s (DeltaAt y k)) ≡ pos 0
      other y k q =
          let own : j ≡ i = w.0 in
          let apart : (j == k) ≡ false = grind (arith, nat_tests) in
          ap (λ v. cond ((x == y) && v) (value e s) (s (DeltaAt y k))) apart
          ∙ ap (λ v. cond v (value e s) (s (DeltaAt y k))) (and_false (x == y)) ∙ a.others y k q
  stays_alone (Print e) s st w a = a
  stays_alone (Seq ds) s st w a = absurd st
  stays_alone (If t c d) s st w a = absurd st

  same_step : (c : Command) (s : State) → IsStraightOne c → IsAlone b i s → exec (local_command b i c) s ≡ exec c s
  unfolding definitions plan_definitions meaning_definitions
  same_step Skip s st a = absurd st
  same_step (Assign t e) s st a = λ k. record { state = put s (TempAt t) (same_value b i s a e k); prints = [] }
  same_step (Write x e) s st a = λ k. record { state = put s (location_of x) (same_value b i s a e k); prints = [] }
  same_step (Print e) s st a = λ k. record { state = s; prints = same_value b i s a e k ∷ [] }
  same_step (Seq ds) s st a = absurd st
  same_step (If t c d) s st a = absurd st

  can_step : (l : ℕ) (c : Command) (s : State) → IsStraightOne c → IsAlone b i s → can_exec l c s ≡ true → can_exec l (local_command b i c) s ≡ true
  unfolding definitions plan_definitions split_definitions
  can_step l Skip s st a h = absurd st
  can_step l (Assign t e) s st a h = fits_too b i s a l e h
  can_step l (Write x e) s st a h = fits_too b i s a l e h
  can_step l (Print e) s st a h = fits_too b i s a l e h
  can_step l (Seq ds) s st a h = absurd st
  can_step l (If t c d) s st a h = absurd st

  -- ---- one after another
  pub same_runs : (cs : Commands) (s : State) → IsStraight cs → WritesOwn i cs → IsAlone b i s → exec_all (localized b i cs) s ≡ exec_all cs s
  unfolding definitions plan_definitions meaning_definitions
  same_runs NoCommand s st w a = refl
  same_runs (MoreCommand c cs) s st w a =
      let own = one_own i c cs st.0 w in
      ap (λ (r : Run). after_prints r.prints (exec_all (localized b i cs) r.state)) (same_step c s st.0 a)
      ∙ ap (after_prints (exec c s).prints) (same_runs cs (exec c s).state st.1 own.1 (stays_alone c s st.0 own.0 a))

  pub can_too :
      (l : ℕ) (cs : Commands) (s : State) → IsStraight cs → WritesOwn i cs → IsAlone b i s → can_exec_all l cs s ≡ true →
      can_exec_all l (localized b i cs) s ≡ true
  unfolding definitions plan_definitions split_definitions
  can_too l NoCommand s st w a h = refl
  can_too l (MoreCommand c cs) s st w a h =
      let own = one_own i c cs st.0 w in
      let parts = and_parts (can_exec l c s) _ h in
      both (can_step l c s st.0 a parts.0)
      (subst (λ (r : Run). can_exec_all l (localized b i cs) r.state ≡ true) (sym (same_step c s st.0 a))
      (can_too l cs (exec c s).state st.1 own.1 (stays_alone c s st.0 own.0 a) parts.1))

  pub each_fits :
      (cs : List LCommand) (s : State) → IsStraight (low_commands (map plain_lcommand cs)) → WritesOwn i (low_commands (map plain_lcommand cs)) →
      IsAlone b i s → can_exec_all run_limit (low_commands (map plain_lcommand cs)) s ≡ true → All (λ c. CommandFits b i (plain_lcommand c)) cs
  unfolding definitions plan_definitions split_definitions syntax_definitions
  each_fits [] s st w a h = All-nil (λ c. CommandFits b i (plain_lcommand c))
  each_fits (c ∷ cs) s st w a h =
      let own = one_own i (plain_lcommand c) (low_commands (map plain_lcommand cs)) st.0 w in
      let parts = and_parts (can_exec run_limit (plain_lcommand c) s) _ h in
      All-cons (λ d. CommandFits b i (plain_lcommand d)) c cs (s, a, parts.0)
      (each_fits cs (exec (plain_lcommand c) s).state st.1 own.1 (stays_alone (plain_lcommand c) s st.0 own.0 a) parts.1)

  -- ---- what they are
  straight_one : (c : Command) → IsStraightOne c → IsStraightOne (local_command b i c)
  unfolding definitions plan_definitions
  straight_one Skip st = st
  straight_one (Assign t e) st = st
  straight_one (Write x e) st = st
  straight_one (Print e) st = st
  straight_one (Seq ds) st = st
  straight_one (If t c d) st = st

  pub straight_too : (cs : Commands) → IsStraight cs → IsStraight (localized b i cs)
  unfolding definitions plan_definitions
  straight_too NoCommand st = st
  straight_too (MoreCommand c cs) st = (straight_one c st.0, straight_too cs st.1)

  pub same_written : (cs : Commands) → written (localized b i cs) ≡ written cs
  unfolding definitions
  same_written NoCommand = refl
  same_written (MoreCommand Skip cs) = same_written cs
  same_written (MoreCommand (Assign t e) cs) = same_written cs
  same_written (MoreCommand (Write x e) cs) = ap (with_delta x) (same_written cs)
  same_written (MoreCommand (Print e) cs) = same_written cs
  same_written (MoreCommand (Seq ds) cs) = same_written cs
  same_written (MoreCommand (If t c d) cs) = same_written cs
