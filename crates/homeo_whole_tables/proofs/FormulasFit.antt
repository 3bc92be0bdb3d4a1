-- Where a command can be executed, each formula of its table fits.
use Rattle.std.proofs.Common.{◌≡◌, true, false, cond, ◌&&◌, not, Bool, Option, Some, None, ◌<◌, List, [], ◌∷◌, map, get_or, refl, sym, ap, ap₂, ◌∙◌, subst, true≢false}
use Rattle.std.proofs.lemmas.Bool.{and_parts}
use Rattle.std.proofs.lemmas.List.Elements.{All-nil, All-cons, All-map, All-append}
use Rattle.std.proofs.lemmas.List.{get_or-map, length-map}
use Rattle.std.specs.List.{All}
use Rattle.homeo_syntax.specs.Low.{Expr, Cond, NoTest, MoreTest, Command, Commands, Skip, Assign, Write, Print, Seq, If, NoCommand, MoreCommand}
use Rattle.homeo_meaning.specs.Key.{definitions as meaning_definitions}
use Rattle.homeo_meaning.specs.LowMeaning.{Location, TempAt, State, location_of, put, value, passes, holds, exec, exec_all}
use Rattle.homeo_plan.specs.Key.{definitions as plan_definitions}
use Rattle.homeo_plan.specs.declared.rows.Row as rows
use Rattle.homeo_plan.specs.PlanView.{plain_row}
use Rattle.homeo_plan.specs.Table.{Row, both, set_before, print_before, test_before, otherwise, before, all_before, clear_row, last_row, table, HasNoTemps}
use Rattle.homeo_split.specs.Key.{definitions as split_definitions}
use Rattle.homeo_split.specs.CanExec.{run_limit, expr_fits, cond_fits, can_exec, can_exec_all}
use Rattle.homeo_split.specs.States.{state_of}
use Rattle.homeo_split.specs.declared.split.Split.{Split}
use Rattle.homeo_substitution.specs.Key.{definitions as substitution_definitions}
use Rattle.homeo_substitution.specs.Substitution.{substituted, substituted_cond}
use Rattle.homeo_table.specs.After.{after, fits_if}
use Rattle.homeo_table.proofs.Fitting.{holds-after, after-put, fits-put, cond-fits-after}
use Rattle.homeo_table.proofs.NoTemps.{no_temps}
use Rattle.homeo_table.proofs.Substituted.{put-cond, substituted-both, none-cond}
use Rattle.homeo_table.proofs.WalkSteps.{takes}

-- ---- lists
each-from : {X Y : Type 0} (P : X → Type 0) (f : Y → X) (ys : List Y) → All P (map f ys) → All (λ y. P (f y)) ys
each-from P f ys h k d lt =
    subst P (get_or-map f ys k d (f d) lt) (h k (f d) (subst (λ n. k < n) (sym (length-map ys f)) lt))

-- ---- conditions one after another
module _ (s : State) (f : Cond) where
  both-fits : (c : Cond) → cond_fits run_limit c s ≡ true → (holds c s ≡ true → cond_fits run_limit f s ≡ true) → cond_fits run_limit (both c f) s ≡ true
  unfolding plan_definitions split_definitions meaning_definitions
  both-fits NoTest h g = g refl
  both-fits (MoreTest t c) h g =
      let k = and_parts _ _ h in
      ap₂ ◌&&◌ k.0 (go (passes t s) refl k.1 (both-fits c))
    where
      go : (v : Bool) → passes t s ≡ v → cond v (cond_fits run_limit c s) true ≡ true
          → (cond_fits run_limit c s ≡ true → (holds c s ≡ true → cond_fits run_limit f s ≡ true) → cond_fits run_limit (both c f) s ≡ true)
          → cond v (cond_fits run_limit (both c f) s) true ≡ true
      go true e k ih = ih k (λ is. g (ap₂ ◌&&◌ e is))
      go false e k ih = refl

  otherwise-fits : (c : Cond) → cond_fits run_limit c s ≡ true → (holds c s ≡ false → cond_fits run_limit f s ≡ true) → cond_fits run_limit (both (otherwise c) f) s ≡ true
  unfolding plan_definitions split_definitions meaning_definitions
  otherwise-fits c h g = ap₂ ◌&&◌ h (go (holds c s) refl)
    where
      go : (v : Bool) → holds c s ≡ v → cond (not v) (cond_fits run_limit f s) true ≡ true
      go true e = refl
      go false e = g e

-- ---- rows in front of which expressions stand
module _ (s : State) (temps : HasNoTemps s) where
  -- a formula fits with these expressions put in
  abbrev Fits : (Location → Option Expr) → Row → Type 0
  Fits b r = cond_fits run_limit (substituted_cond b r.formula) s ≡ true

  -- wherever expressions stand that lead to this state, each formula fits with these put in
  abbrev FitRows : State → List Row → Type 0
  FitRows st rows = (b : Location → Option Expr) → ((l : Location) → fits_if (b l) s ≡ true) → after b s ≡ st → All (Fits b) rows

  fit-set :
      (k : Command) (p : Location) (e : Expr) (st : State) (rows : List Row) → expr_fits run_limit e st ≡ true → FitRows (put st p (value e st)) rows →
      FitRows st (map (set_before k p e) rows)
  unfolding plan_definitions
  fit-set k p e st rows can h b fits is =
      let can : expr_fits run_limit e (after b s) ≡ true = ap (expr_fits run_limit e) is ∙ can in
      let next = h (put b p (Some (substituted b e))) (fits-put b s temps fits p e can)
      (after-put b s temps p e ∙ ap (λ st. put st p (value e st)) is) in
      All-map (Fits b) (set_before k p e) rows
      (λ n d lt. ap (λ c. cond_fits run_limit c s) (sym (put-cond b p e (get_or rows n d).formula)) ∙ next n d lt)

  fit-print : (e : Expr) (st : State) (rows : List Row) → FitRows st rows → FitRows st (map (print_before e) rows)
  unfolding plan_definitions
  fit-print e st rows h b fits is = All-map (Fits b) (print_before e) rows (h b fits is)

  fits-tested :
      (b : Location → Option Expr) (t : Cond) (r : Row) → cond_fits run_limit (substituted_cond b t) s ≡ true →
      (holds (substituted_cond b t) s ≡ true → Fits b r) → Fits b (test_before t r)
  unfolding plan_definitions
  fits-tested b t r asked h =
      ap (λ c. cond_fits run_limit c s) (substituted-both b t r.formula) ∙ both-fits s (substituted_cond b r.formula) (substituted_cond b t) asked h

  fits-otherwise :
      (b : Location → Option Expr) (t : Cond) (r : Row) → cond_fits run_limit (substituted_cond b t) s ≡ true →
      (holds (substituted_cond b t) s ≡ false → Fits b r) → Fits b (test_before (otherwise t) r)
  unfolding substitution_definitions plan_definitions
  fits-otherwise b t r asked h = otherwise-fits s (substituted_cond b r.formula) (substituted_cond b t) asked h

  -- the rows of the branch that is taken fit, and those of the other fail at its condition
  fit-test :
      (v : Bool) (t : Cond) (c d : Command) (st : State) (rows : List Row) → can_exec run_limit (If t c d) st ≡ true → cond_fits run_limit t st ≡ true → holds t st ≡ v →
      (can_exec run_limit c st ≡ true → FitRows (exec c st).state rows → FitRows st (before c rows)) →
      (can_exec run_limit d st ≡ true → FitRows (exec d st).state rows → FitRows st (before d rows)) →
      FitRows (exec (If t c d) st).state rows → FitRows st (before (If t c d) rows)
  unfolding plan_definitions
  fit-test true t c d st rows can asks held left right h b fits is =
      let next = takes true (If t c d) t c d st refl held in
      let asked = cond-fits-after b s temps fits t (ap (cond_fits run_limit t) is ∙ asks) in
      let here : holds (substituted_cond b t) s ≡ true = holds-after b s temps t ∙ ap (holds t) is ∙ held in
      let first = left (next.can can) (subst (λ st. FitRows st rows) next.state h) b fits is in
      All-append (Fits b) (map (test_before t) (before c rows)) (map (test_before (otherwise t)) (before d rows))
      (All-map (Fits b) (test_before t) (before c rows) (λ n x lt. fits-tested b t (get_or (before c rows) n x) asked (λ q. first n x lt)))
      (All-map (Fits b) (test_before (otherwise t)) (before d rows)
      (λ n x lt. fits-otherwise b t (get_or (before d rows) n x) asked (λ q. absurd (true≢false (sym here ∙ q)))))
  fit-test false t c d st rows can asks held left right h b fits is =
      let next = takes false (If t c d) t c d st refl held in
      let asked = cond-fits-after b s temps fits t (ap (cond_fits run_limit t) is ∙ asks) in
      let here : holds (substituted_cond b t) s ≡ false = holds-after b s temps t ∙ ap (holds t) is ∙ held in
      let second = right (next.can can) (subst (λ st. FitRows st rows) next.state h) b fits is in
      All-append (Fits b) (map (test_before t) (before c rows)) (map (test_before (otherwise t)) (before d rows))
      (All-map (Fits b) (test_before t) (before c rows)
      (λ n x lt. fits-tested b t (get_or (before c rows) n x) asked (λ q. absurd (true≢false (sym q ∙ here)))))
      (All-map (Fits b) (test_before (otherwise t)) (before d rows) (λ n x lt. fits-otherwise b t (get_or (before d rows) n x) asked (λ q. second n x lt)))

  mutual
    unfolding plan_definitions split_definitions meaning_definitions

    fit-before : (c : Command) (st : State) (rows : List Row) → can_exec run_limit c st ≡ true → FitRows (exec c st).state rows → FitRows st (before c rows)
    fit-before Skip st rows can h = h
    fit-before (Assign t e) st rows can h = fit-set (Assign t e) (TempAt t) e st rows can h
    fit-before (Write x e) st rows can h = fit-set (Write x e) (location_of x) e st rows can h
    fit-before (Print e) st rows can h = fit-print e st rows h
    fit-before (Seq cs) st rows can h = fit-all-before cs st rows can h
    fit-before (If t c d) st rows can h =
        fit-test (holds t st) t c d st rows can (and_parts _ _ can).0 refl (fit-before c st rows) (fit-before d st rows) h

    fit-all-before :
        (cs : Commands) (st : State) (rows : List Row) → can_exec_all run_limit cs st ≡ true → FitRows (exec_all cs st).state rows → FitRows st (all_before cs rows)
    fit-all-before NoCommand st rows can h = h
    fit-all-before (MoreCommand c cs) st rows can h =
        let k = and_parts _ _ can in
        fit-before c st (all_before cs rows) k.0 (fit-all-before cs (exec c st).state rows k.1 h)

  fit-table : (c : Command) → can_exec run_limit c s ≡ true → All (λ r. cond_fits run_limit r.formula s ≡ true) (table c)
  unfolding plan_definitions split_definitions substitution_definitions
  fit-table c can =
      let rows = fit-before c s (last_row ∷ []) can (λ b fits is. All-cons (Fits b) last_row [] refl (All-nil (Fits b))) (λ l. None) (λ l. refl) refl in
      All-map (λ r. cond_fits run_limit r.formula s ≡ true) clear_row (before c (last_row ∷ []))
      (λ n d lt. ap (λ c. cond_fits run_limit c s) (sym (none-cond (get_or (before c (last_row ∷ [])) n d).formula)) ∙ rows n d lt)

pub table_fits :
    (c : Command) (rs : List rows.Row) → map plain_row rs ≡ table c → (base : Split) → can_exec run_limit c (state_of base) ≡ true →
    All (λ r. cond_fits run_limit (plain_row r).formula (state_of base) ≡ true) rs
table_fits c rs e base can =
    each-from (λ r. cond_fits run_limit r.formula (state_of base) ≡ true) plain_row rs
    (subst (All (λ r. cond_fits run_limit r.formula (state_of base) ≡ true)) (sym e) (fit-table (state_of base) (no_temps base) c can))
