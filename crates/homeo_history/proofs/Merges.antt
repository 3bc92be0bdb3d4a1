-- Every merge of a round's segments, run on its base, gives the entries' prints and the fold.
use Rattle.homeo_meaning.specs.Key.{definitions as meaning_definitions}
use Rattle.homeo_plan.specs.Key.{definitions as plan_definitions}
use Rattle.homeo_history.specs.Key.{definitions}
use Rattle.std.proofs.Common.{◌≡◌, ◌≢◌, ℕ, ◌==◌, ◌<◌, nat_lt, Bool, true, false, cond, List, [], ◌∷◌, ◌++◌, length, map, take, drop, count_by, ℤ, pos, refl, sym, ap, ap₂, ◌∙◌, subst, arith}
use Rattle.std.specs.Prelude.{All}
use Rattle.std.proofs.lemmas.List.Elements.{All-head, All-tail}
use mathlib.Core.Path.{fun_ext}
use Rattle.std.proofs.lemmas.Int.{ints}
use Rattle.std.proofs.lemmas.Bool.Decides.{nat_tests}
use Rattle.homeo_syntax.specs.Source as s
use Rattle.homeo_meaning.specs.declared.call.CallId.{CallId}
use Rattle.homeo_meaning.specs.Acceptance.{IsAccepted}
use Rattle.homeo_meaning.specs.Bounds.{IsWithin}
use Rattle.homeo_meaning.specs.Calls.{CallExists}
use Rattle.homeo_meaning.specs.LowMeaning.{BaseAt, exec, whole}
use Rattle.homeo_meaning.specs.Schema.{schema_of}
use Rattle.homeo_meaning.specs.Serial.{values_of, call_outcome, SerialRun, serial}
use Rattle.homeo_meaning.proofs.Within.{length_in}
use Rattle.homeo_meaning.specs.Bounds.{all_bounds}
use Rattle.homeo_plan.specs.Joined.{Deltas, folded}
use Rattle.homeo_plan.specs.Local.{no_deltas}
use Rattle.homeo_plan.specs.Planned.{sites_of, planned_at, template_at, policy}
use Rattle.homeo_plan.proofs.Sums.{sum_same, sum_zero}
use Rattle.homeo_plan.specs.Soundness.{StepsFold}
use Rattle.homeo_plan.proofs.Stepped.{stepped}
use Rattle.homeo_plan.proofs.OwnWithin.{zero_keeps}
use Rattle.homeo_plan.proofs.Policy.{policy_fits}
use Rattle.homeo_plan.proofs.Replays.{planned_whole, planned_covers}
use Rattle.homeo_plan.proofs.PlannedCalls.{planned_member, site_below}
use Rattle.homeo_history.specs.History.{Entry, Round}
use Rattle.homeo_history.specs.Merge.{segment_of, put_at, merge, FitsSegments}
use Rattle.homeo_history.specs.Legal.{IsCallAt}
use Rattle.homeo_history.specs.Replayed.{prints_at, deltas_after, end_of, MeetsTreaty, KeepsOne, KeepsAll, site_end, fold_of}
use Rattle.homeo_history.specs.Laws.{HasSegments, MergeLaw}
use Rattle.homeo_history.proofs.CallRuns.{call_runs, site_is}
use Rattle.homeo_meaning.proofs.ValueLists.{like_itself}
use Rattle.homeo_history.proofs.Counts.{count_same, count_other}

abbrev Segments : Type 0
Segments = ℕ → List Entry

module _ (w : s.Workload) (base : List ℤ) (accepted : IsAccepted w) where
  abbrev AllKeep : (ℕ → Deltas) → Type 0
  AllKeep d = (i : ℕ) → i < sites_of w → MeetsTreaty w base i (d i)

  abbrev fold_at : (ℕ → Deltas) → ℕ → ℤ
  fold_at d = folded (sites_of w) (values_of base) d

  -- ---- one call
  record Acted (d : ℕ → Deltas) (id : CallId) (db : List ℤ) (i : ℕ) : Type 0 where
    prints : (call_outcome w id db).prints ≡ prints_at w base id (d i)
    within : IsWithin (schema_of w) (call_outcome w id db).database
    values : values_of (call_outcome w id db).database ≡ fold_at (put_at d i (deltas_after w base id (d i)))

  acted_there : (d : ℕ → Deltas) (id : CallId) (db : List ℤ) → AllKeep d → CallExists w id → IsWithin (schema_of w) db → values_of db ≡ fold_at d → Acted d id db (planned_at w id).site
  unfolding definitions plan_definitions
  acted_there d id db keep exists h at =
      let m = planned_member w id exists in
      let g = planned_at w id in
      let one : StepsFold (sites_of w) (values_of base) d g g.site = stepped (sites_of w) (values_of base) (template_at w base) (policy w base) d (policy_fits w base accepted) keep g (planned_covers w base g m) (site_below w id accepted exists) (planned_whole w g m) in
      let r = call_runs w id db exists h in
      record {
        prints = r.prints ∙ ap (λ v. (exec g.command (whole v)).prints) at ∙ one.prints;
        within = r.within;
        values = r.values ∙ ap (λ v n. (exec g.command (whole v)).state (BaseAt n)) at ∙ one.after;
      }

  acted : (d : ℕ → Deltas) (id : CallId) (db : List ℤ) (i : ℕ) → AllKeep d → IsCallAt w i id → IsWithin (schema_of w) db → values_of db ≡ fold_at d → Acted d id db i
  acted d id db i keep c h at = subst (Acted d id db) (site_is w id i c) (acted_there d id db keep c.exists h at)

  -- ---- the entries of one site
  abbrev Held : ℕ → Deltas → List Entry → Type 0
  Held i x [] = Unit {0}
  Held i x (e ∷ es) = (IsCallAt w i e.call × KeepsOne w base i x e) × Held i (deltas_after w base e.call x) es

  held : (i : ℕ) (x : Deltas) (es : List Entry) → All (λ e. IsCallAt w i e.call) es → KeepsAll w base i x es → Held i x es
  unfolding definitions
  held i x [] at h = tt
  held i x (e ∷ es) at h =
      ((All-head (λ e. IsCallAt w i e.call) e es at, h.0), held i (deltas_after w base e.call x) es (All-tail (λ e. IsCallAt w i e.call) e es at) h.1)

  -- ---- a whole merge
  abbrev run_of : Segments → List ℕ → List ℤ → SerialRun
  run_of segs choice db = serial w db (map (λ (e : Entry). e.call) (merge segs choice))

  record Merged (segs : Segments) (choice : List ℕ) (d : ℕ → Deltas) (db : List ℤ) : Type 0 where
    prints : (run_of segs choice db).logs ≡ map (λ (e : Entry). e.prints) (merge segs choice)
    within : IsWithin (schema_of w) (run_of segs choice db).database
    values : values_of (run_of segs choice db).database ≡ fold_at (λ i. end_of w base (segs i) (d i))

  record CanMerge (segs : Segments) (choice : List ℕ) (d : ℕ → Deltas) (db : List ℤ) : Type 0 where
    lengths : (i : ℕ) → count_by (λ j. i == j) choice ≡ length (segs i)
    treaties : AllKeep d
    within : IsWithin (schema_of w) db
    values : values_of db ≡ fold_at d
    entries : (i : ℕ) → Held i (d i) (segs i)

  no_entries : (l : List Entry) → 0 ≡ length l → l ≡ []
  no_entries [] e = refl
  no_entries (x ∷ l) e = absurd (omega arith)

  module _ (segs : Segments) (i : ℕ) (choice : List ℕ) (d : ℕ → Deltas) (db : List ℤ) (e : Entry) (es : List Entry) (at : segs i ≡ e ∷ es) (can : CanMerge segs (i ∷ choice) d db) where
    abbrev rest : Segments
    rest = put_at segs i es

    abbrev new : ℕ → Deltas
    new = put_at d i (deltas_after w base e.call (d i))

    abbrev next : List ℤ
    next = (call_outcome w e.call db).database

    kept : (IsCallAt w i e.call × KeepsOne w base i (d i) e) × Held i (deltas_after w base e.call (d i)) es
    kept = subst (Held i (d i)) at (can.entries i)

    one : Acted d e.call db i
    one = acted d e.call db i can.treaties kept.0.0 can.within can.values

    can_rest : CanMerge rest choice new next
    can_rest =
        record {
          lengths = λ j. lengths j (i == j) refl;
          treaties = λ j lt. treaties j (i == j) refl lt;
          within = one.within;
          values = one.values;
          entries = λ j. entries j (i == j) refl;
        }
      where
        lengths : (j : ℕ) (v : Bool) → (i == j) ≡ v → count_by (λ m. j == m) choice ≡ length (cond v es (segs j))
        lengths j true q =
            let s : i ≡ j = grind (arith, nat_tests) in
            subst (λ m. count_by (λ n. m == n) choice ≡ length es) s (omega (arith, can.lengths i, count_same i choice, ap length at))
        lengths j false q =
            let ne : i ≢ j = grind (arith, nat_tests) in
            sym (count_other i j choice ne) ∙ can.lengths j

        treaties : (j : ℕ) (v : Bool) → (i == j) ≡ v → j < sites_of w → MeetsTreaty w base j (cond v (deltas_after w base e.call (d i)) (d j))
        treaties j true q lt =
            let s : i ≡ j = grind (arith, nat_tests) in
            subst (λ m. MeetsTreaty w base m (deltas_after w base e.call (d i))) s kept.0.1.keeps
        treaties j false q lt = can.treaties j lt

        entries : (j : ℕ) (v : Bool) → (i == j) ≡ v → Held j (cond v (deltas_after w base e.call (d i)) (d j)) (cond v es (segs j))
        entries j true q =
            let s : i ≡ j = grind (arith, nat_tests) in
            subst (λ m. Held m (deltas_after w base e.call (d i)) es) s kept.1
        entries j false q = can.entries j

    same_end : (j : ℕ) (v : Bool) → (i == j) ≡ v → end_of w base (cond v es (segs j)) (cond v (deltas_after w base e.call (d i)) (d j)) ≡ end_of w base (segs j) (d j)
    unfolding definitions plan_definitions
    same_end j true q =
        let s : i ≡ j = grind (arith, nat_tests) in
        subst (λ m. end_of w base es (deltas_after w base e.call (d i)) ≡ end_of w base (segs m) (d m)) s (sym (ap (λ l. end_of w base l (d i)) at))
    same_end j false q = refl

    picks : merge segs (i ∷ choice) ≡ e ∷ merge rest choice
    unfolding definitions
    picks = ap (λ l. take 1 l ++ merge (put_at segs i (drop 1 l)) choice) at

    run_is : run_of segs (i ∷ choice) db ≡ record { logs = (call_outcome w e.call db).prints ∷ (run_of rest choice next).logs; database = (run_of rest choice next).database }
    unfolding meaning_definitions
    run_is = ap (λ l. serial w db (map (λ (x : Entry). x.call) l)) picks

    merged_more : Merged rest choice new next → Merged segs (i ∷ choice) d db
    merged_more ih =
        record {
          prints = ap (λ (r : SerialRun). r.logs) run_is ∙ ap₂ ◌∷◌ (one.prints ∙ sym kept.0.1.prints) ih.prints ∙ sym (ap (map (λ (x : Entry). x.prints)) picks);
          within = subst (λ (r : SerialRun). IsWithin (schema_of w) r.database) (sym run_is) ih.within;
          values = ap (λ (r : SerialRun). values_of r.database) run_is ∙ ih.values ∙ ap fold_at (fun_ext (λ j. same_end j (i == j) refl));
        }

  merged : (choice : List ℕ) (segs : Segments) (d : ℕ → Deltas) (db : List ℤ) → CanMerge segs choice d db → Merged segs choice d db
  unfolding definitions meaning_definitions plan_definitions
  merged [] segs d db can =
      record {
        prints = refl;
        within = can.within;
        values = can.values ∙ ap fold_at (fun_ext (λ i. sym (ap (λ l. end_of w base l (d i)) (no_entries (segs i) (can.lengths i)))));
      }
  merged (i ∷ choice) segs d db can = go (segs i) refl (λ rest new next c. merged choice rest new next c)
    where
      go : (l : List Entry) → segs i ≡ l → ((rest : Segments) (new : ℕ → Deltas) (next : List ℤ) → CanMerge rest choice new next → Merged rest choice new next) → Merged segs (i ∷ choice) d db
      go [] at ih = absurd (omega (arith, can.lengths i, count_same i choice, ap length at))
      go (e ∷ es) at ih = merged_more segs i choice d db e es at can (ih _ _ _ (can_rest segs i choice d db e es at can))

  -- ---- from deltas 0
  no_change : fold_at (λ i. no_deltas) ≡ values_of base
  unfolding definitions plan_definitions
  no_change = fun_ext at_start
    where
      zeros : (m : ℕ) → cond (nat_lt m (sites_of w)) (pos 0) (pos 0) ≡ pos 0
      zeros m = go (nat_lt m (sites_of w))
        where
          go : (v : Bool) → cond v (pos 0) (pos 0) ≡ pos 0
          go true = refl
          go false = refl

      at_start : (x : ℕ) → fold_at (λ i. no_deltas) x ≡ values_of base x
      at_start x =
          let e = sum_same 0 (sites_of w) (λ m. cond (nat_lt m (sites_of w)) (pos 0) (pos 0)) (λ m. pos 0) zeros in
          omega (arith, ints, e, sum_zero 0 (sites_of w))

module _ (w : s.Workload) (r : Round) (accepted : IsAccepted w) (inside : IsWithin (schema_of w) r.base) (segments : HasSegments w r) (choice : List ℕ) (fits : FitsSegments r.segments choice) where
  can : CanMerge w r.base accepted (segment_of r.segments) choice (λ i. no_deltas) r.base
  unfolding definitions meaning_definitions
  can =
      record {
        lengths = fits;
        treaties = λ i lt. zero_keeps (sites_of w) (template_at w r.base) (policy w r.base) i (policy_fits w r.base accepted);
        within = inside;
        values = sym (no_change w r.base accepted);
        entries = λ i. held w r.base accepted i no_deltas (segment_of r.segments i) (segments.at_sites i) (segments.replayed i);
      }

  round_merged : Merged w r.base accepted (segment_of r.segments) choice (λ i. no_deltas) r.base
  round_merged = merged w r.base accepted choice (segment_of r.segments) (λ i. no_deltas) r.base can

  round_last : (run_of w r.base accepted (segment_of r.segments) choice r.base).database ≡ fold_of w r
  unfolding definitions meaning_definitions
  round_last =
      like_itself r.base _ (folded (sites_of w) (values_of r.base) (site_end w r)) (length_in (all_bounds (schema_of w)) _ round_merged.within ∙ sym (length_in (all_bounds (schema_of w)) r.base inside)) round_merged.values

  pub round_within : IsWithin (schema_of w) (fold_of w r)
  round_within = subst (IsWithin (schema_of w)) round_last round_merged.within

pub merge_law : MergeLaw
unfolding definitions meaning_definitions
merge_law w r accepted within segments =
    record {
      prints = λ choice fits. (round_merged w r accepted within segments choice fits).prints;
      database = λ choice fits. round_last w r accepted within segments choice fits;
    }
