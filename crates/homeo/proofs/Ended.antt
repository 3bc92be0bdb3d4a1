-- A call that ends itself leaves its site's deltas as they were, so it keeps the site's treaty.
use Rattle.homeo_meaning.specs.Key.{definitions as meaning_definitions}
use Rattle.homeo_plan.specs.Key.{definitions as plan_definitions}
use Rattle.homeo_history.specs.Key.{definitions as history_definitions}
use Rattle.homeo_site.specs.Key.{definitions as site_definitions}
use Rattle.std.proofs.Common.{◌≡◌, ℕ, ◌+◌, ◌<◌, ◌≤◌, ◌==◌, nat_lt, Bool, true, false, cond, List, [], ◌∷◌, map, length, ℤ, pos, ◌+ℤ◌, ◌-ℤ◌, Option, Some, None, refl, sym, ap, ◌∙◌, subst, arith}
use Rattle.std.specs.Prelude.{All, IfSome}
use Rattle.std.proofs.lemmas.Int.{ints}
use Rattle.std.proofs.lemmas.Bool.Decides.{nat_tests}
use Rattle.std.proofs.lemmas.List.{get_or_past}
use Rattle.std.proofs.lemmas.List.Elements.{All-nil, All-cons, All-head, All-tail}
use mathlib.Core.Path.{fun_ext}
use Rattle.homeo_syntax.specs.Source as s
use Rattle.homeo_meaning.specs.Acceptance.{IsAccepted}
use Rattle.homeo_meaning.specs.Bounds.{IsWithin}
use Rattle.homeo_meaning.specs.LowMeaning.{BaseAt, exec, whole}
use Rattle.homeo_meaning.specs.Context.{context}
use Rattle.homeo_meaning.specs.Meaning.{Run, does_all, run}
use Rattle.homeo_meaning.specs.Schema.{Schema, schema_of}
use Rattle.homeo_meaning.specs.Serial.{values_of, database_like, Outcome, outcome_at, outcome_of, call_outcome, arguments}
use Rattle.homeo_meaning.specs.declared.call.CallId.{CallId}
use Rattle.homeo_meaning.proofs.Within.{list_in}
use Rattle.homeo_plan.specs.Joined.{Deltas, folded, with_site}
use Rattle.homeo_plan.specs.Local.{no_deltas}
use Rattle.homeo_plan.specs.Planned.{sites_of, planned_at, template_at, policy}
use Rattle.homeo_plan.specs.Soundness.{StepsFold}
use Rattle.homeo_plan.specs.Template.{PlannedCall}
use Rattle.homeo_plan.proofs.Findings.{finding_law}
use Rattle.homeo_plan.proofs.OwnWithin.{zero_keeps, only, only_keeps, only_here, only_folded}
use Rattle.homeo_plan.proofs.PlannedCalls.{planned_member, site_below}
use Rattle.homeo_plan.proofs.Policy.{policy_fits}
use Rattle.homeo_plan.proofs.Replays.{planned_covers, planned_whole, replays_within}
use Rattle.homeo_plan.proofs.Stepped.{stepped}
use Rattle.homeo_plan.proofs.Sums.{sum_same, sum_add, sum_pick, sum_zero}
use Rattle.homeo_history.specs.History.{Entry, Closing, Round}
use Rattle.homeo_history.specs.Laws.{HasSegments}
use Rattle.homeo_history.specs.Legal.{first_base, IsCallAt, IsAtSites, ClosesWith, base_or, RunsTo, AreSerial}
use Rattle.homeo_history.specs.Merge.{segment_of}
use Rattle.homeo_history.specs.Replayed.{deltas_after, end_of, MeetsTreaty, KeepsAll, site_end, Breaks, IsReplayed, fold_of}
use Rattle.homeo_history.proofs.CallRuns.{call_runs, site_is}
use Rattle.homeo_history.proofs.Choices.{some_choice, some_choice_fits}
use Rattle.homeo_history.proofs.Folds.{fold_within}
use Rattle.homeo_history.proofs.Merges.{merge_law}
use Rattle.homeo_meaning.proofs.ValueLists.{like_itself}
use Rattle.homeo_round.specs.PlusDeltas.{plus_deltas}
use Rattle.homeo_round.proofs.Added.{plus_at, plus_length}
use Rattle.homeo_site.proofs.CallsOfSites.{planned_calls, kept_along}
use Rattle.homeo_site.proofs.LocalSteps.{own_within, no_delta_past, values_of_list}
use Rattle.homeo.specs.Ended.{EndsItself, EndedKeepsTreaty, EndedClosesNoRound}

-- ---- what an ended call leaves
ended_stays :
    (x : Schema) (params : List ℕ) (args : List ℤ) (body : s.Commands) (before : ℕ → ℤ) → (run x params args body before).ended ≡ true →
    (run x params args body before).state.database ≡ before
unfolding meaning_definitions
ended_stays x params args body before ended =
    let r : Run = does_all (context x params args) body (record { database = before; temps = λ t. pos 0 }) in
    ap (λ (v : Bool). let f : ℕ → ℤ = cond v before r.state.database in f) ended

stays_put : (w : s.Workload) (id : CallId) (db : List ℤ) → EndsItself w id db → (call_outcome w id db).database ≡ db
unfolding meaning_definitions
stays_put w id db ends =
    let t = ends.transaction in
    let after = ended_stays (schema_of w) (map (λ p. p.name.name) t.params) (arguments ends.call) t.body (values_of db) ends.ended in
    ap (λ o. (outcome_of w o db).database) ends.made
    ∙ ap (λ o. (outcome_at w o (arguments ends.call) db).database) ends.named
    ∙ ap (database_like db) after ∙ sym (like_itself db db (values_of db) refl refl)

-- ---- the deltas of one site among those of all
module _ (k : ℕ) (b : ℕ → ℤ) (d : ℕ → Deltas) (i : ℕ) (x : Deltas) (lt : i < k) where
  one_site :
      (n j : ℕ) (u v : Bool) → (i == j) ≡ u → nat_lt j k ≡ v →
      cond v (cond u x (d j) n) (pos 0) ≡ cond v (d j n) (pos 0) +ℤ cond u (x n -ℤ d i n) (pos 0)
  one_site n j true true p q =
      let s : i ≡ j = grind (arith, nat_tests) in
      let e : d i n ≡ d j n = ap (λ m. d m n) s in
      omega (arith, ints, e)
  one_site n j true false p q = absurd (past j p q)
    where
      past : (j : ℕ) → (i == j) ≡ true → nat_lt j k ≡ false → ⊥
      past j p q = grind (arith, nat_tests)
  one_site n j false true p q = omega (arith, ints)
  one_site n j false false p q = refl

  gained : (n : ℕ) → folded k b (with_site d i x) n ≡ folded k b d n +ℤ (x n -ℤ d i n)
  unfolding plan_definitions meaning_definitions
  gained n =
      let terms = sum_same 0 k (λ j. cond (nat_lt j k) (with_site d i x j n) (pos 0)) (λ j. cond (nat_lt j k) (d j n) (pos 0) +ℤ cond (i == j) (x n -ℤ d i n) (pos 0))
      (λ j. one_site n j (i == j) (nat_lt j k) refl refl) in
      let both = sum_add 0 k (λ j. cond (nat_lt j k) (d j n) (pos 0)) (λ j. cond (i == j) (x n -ℤ d i n) (pos 0)) in
      let pick = sum_pick i 0 k (x n -ℤ d i n) (omega arith) (omega (arith, lt)) in
      omega (arith, ints, terms, both, pick)

  -- where the fold is the same, so are they
  same_deltas : folded k b d ≡ folded k b (with_site d i x) → x ≡ d i
  same_deltas same = fun_ext (λ n. let e : folded k b d n ≡ folded k b (with_site d i x) n = ap (λ f. f n) same in omega (arith, ints, e, gained n))

-- ---- where all sites keep their treaties
module _
    (w : s.Workload) (base : List ℤ) (accepted : IsAccepted w) (d : ℕ → Deltas)
    (keep : (i : ℕ) → i < sites_of w → MeetsTreaty w base i (d i)) (i : ℕ) (call : CallId) (at : IsCallAt w i call)
  where
    abbrev k : ℕ
    k = sites_of w

    abbrev b : ℕ → ℤ
    b = values_of base

    abbrev g : PlannedCall
    g = planned_at w call

    site : g.site ≡ i
    site = site_is w call i at

    below : i < k
    below = subst (λ j. j < k) site (site_below w call accepted at.exists)

    one : StepsFold k b d g i
    unfolding history_definitions
    one =
        let member = planned_member w call at.exists in
        subst (StepsFold k b d g) site
        (stepped k b (template_at w base) (policy w base) d (policy_fits w base accepted) keep g (planned_covers w base g member)
        (site_below w call accepted at.exists) (planned_whole w g member))

    module _ (db : List ℤ) (within : IsWithin (schema_of w) db) (is : values_of db ≡ folded k b d) (ends : EndsItself w call db) where
      same : deltas_after w base call (d i) ≡ d i
      unfolding history_definitions
      same =
          let stays = ap values_of (stays_put w call db ends) in
          same_deltas k b d i (deltas_after w base call (d i)) below
          (sym is ∙ sym stays ∙ (call_runs w call db at.exists within).values
          ∙ ap (λ v n. (exec g.command (whole v)).state (BaseAt n)) is ∙ one.after)

      pub kept : MeetsTreaty w base i (deltas_after w base call (d i))
      kept = subst (MeetsTreaty w base i) (sym same) (keep i below)

-- ---- at its site
pub ended_keeps : EndedKeepsTreaty
unfolding history_definitions site_definitions
ended_keeps w x call accepted holds at ends =
    subst (λ y. MeetsTreaty w x.base x.number (deltas_after w x.base call y)) (only_here x.number own)
    (kept w x.base accepted (only x.number own)
    (λ j l. only_keeps (sites_of w) (template_at w x.base) (policy w x.base) x.number own (policy_fits w x.base accepted) holds.meets j) x.number call at seen
    (subst (IsWithin (schema_of w)) (sym listed) (list_in (schema_of w) x.base sum holds.within (own_within w x accepted holds)))
    (fun_ext seen_at ∙ sym (only_folded (sites_of w) (values_of x.base) x.number own holds.site)) ends)
  where
    own : Deltas
    own = values_of x.deltas

    sum : ℕ → ℤ
    sum n = values_of x.base n +ℤ own n

    seen : List ℤ
    seen = plus_deltas x.base x.deltas

    seen_at : (n : ℕ) → values_of seen n ≡ sum n
    seen_at n = plus_at x.base x.deltas n (let c = holds.count in omega (arith, c))

    listed : seen ≡ database_like x.base sum
    listed = like_itself x.base seen sum (plus_length x.base x.deltas) (fun_ext seen_at)

-- ---- at the end of a round
end_meets : (w : s.Workload) (base : List ℤ) (i : ℕ) (es : List Entry) (x : Deltas) → MeetsTreaty w base i x → KeepsAll w base i x es → MeetsTreaty w base i (end_of w base es x)
unfolding history_definitions plan_definitions
end_meets w base i [] x meets keeps = meets
end_meets w base i (e ∷ es) x meets keeps = end_meets w base i es (deltas_after w base e.call x) keeps.0.keeps keeps.1

-- no call that ends itself closes the round
abbrev NotByEnded : s.Workload → Round → Type 0
NotByEnded w r = IfSome r.closing (λ c. EndsItself w c.entry.call (fold_of w r) → ⊥)

module _ (w : s.Workload) (r : Round) (accepted : IsAccepted w) (within : IsWithin (schema_of w) r.base) (at : IsAtSites w r) (h : IsReplayed w r) where
  ends : ℕ → Deltas
  ends = site_end w r

  segments : HasSegments w r
  segments = record { at_sites = at.segments; replayed = h.segments }

  there : IsWithin (schema_of w) (fold_of w r)
  there = fold_within w r accepted within segments

  keep : (i : ℕ) → i < sites_of w → MeetsTreaty w r.base i (ends i)
  unfolding history_definitions ends
  keep i lt =
      end_meets w r.base i (segment_of r.segments i) no_deltas
      (zero_keeps (sites_of w) (template_at w r.base) (policy w r.base) i (policy_fits w r.base accepted)) (h.segments i)

  none_past : (i n : ℕ) → i < sites_of w → length r.base ≤ n → ends i n ≡ pos 0
  unfolding history_definitions plan_definitions ends
  none_past i n lt le =
      let es = segment_of r.segments i in
      no_delta_past w r.base (ends i) within
      (replays_within w r.base i (map (λ e. planned_at w e.call) es) accepted within lt (planned_calls w i es (at.segments i))
      (kept_along w r.base i no_deltas es (h.segments i))) n le

  past : (n : ℕ) → length r.base ≤ n → folded (sites_of w) (values_of r.base) ends n ≡ pos 0
  unfolding plan_definitions meaning_definitions
  past n le =
      let none = sum_same 0 (sites_of w) (λ j. cond (nat_lt j (sites_of w)) (ends j n) (pos 0)) (λ j. pos 0) (λ j. zero_at j (nat_lt j (sites_of w)) refl) in
      omega (arith, ints, none, sum_zero 0 (sites_of w), get_or_past r.base n (pos 0) le)
    where
      zero_at : (j : ℕ) (v : Bool) → nat_lt j (sites_of w) ≡ v → cond v (ends j n) (pos 0) ≡ pos 0
      zero_at j true q = none_past j n (grind (arith, nat_tests)) le
      zero_at j false q = refl

  is : values_of (fold_of w r) ≡ folded (sites_of w) (values_of r.base) ends
  unfolding history_definitions ends
  is = values_of_list r.base (folded (sites_of w) (values_of r.base) ends) past

  closed_by : (o : Option Closing) → IfSome o (λ c. IsCallAt w c.site c.entry.call) → IfSome o (Breaks w r) → IfSome o (λ c. EndsItself w c.entry.call (fold_of w r) → ⊥)
  unfolding history_definitions ends
  closed_by None a breaks = tt
  closed_by (Some c) a breaks = λ itself.
      (finding_law (template_at w r.base) (policy w r.base) c.site (deltas_after w r.base c.entry.call (ends c.site))).some c.broken breaks
      (kept w r.base accepted ends keep c.site c.entry.call a (fold_of w r) there is itself)

  not_by_ended : NotByEnded w r
  not_by_ended = closed_by r.closing at.closing h.closing

  -- what it leaves is within bounds
  next_within : (next : List ℤ) → RunsTo w r next → IsWithin (schema_of w) next
  unfolding history_definitions
  next_within next run = go r.closing at.closing (subst (λ db. ClosesWith w db r.closing next) same run.closes)
    where
      choice : List ℕ
      choice = some_choice r.segments

      same : run.after ≡ fold_of w r
      same =
          let fits = some_choice_fits r.segments in
          sym (run.merges.database choice fits) ∙ (merge_law w r accepted within segments).database choice fits

      go : (o : Option Closing) → IfSome o (λ c. IsCallAt w c.site c.entry.call) → ClosesWith w (fold_of w r) o next → IsWithin (schema_of w) next
      go None a e = subst (IsWithin (schema_of w)) (sym e) there
      go (Some c) a e =
          subst (λ (z : Outcome). IsWithin (schema_of w) z.database) e (call_runs w c.entry.call (fold_of w r) a.exists there).within

-- ---- round after round
each_round :
    (w : s.Workload) (rounds : List Round) (last : List ℤ) → IsAccepted w → IsWithin (schema_of w) (base_or rounds last) →
    All (IsAtSites w) rounds → All (IsReplayed w) rounds → AreSerial w rounds last → All (NotByEnded w) rounds
unfolding history_definitions
each_round w [] last accepted within at h serial = All-nil (NotByEnded w)
each_round w (r ∷ rounds) last accepted within at h serial =
    let here = All-head (IsAtSites w) r rounds at in
    let kept = All-head (IsReplayed w) r rounds h in
    All-cons (NotByEnded w) r rounds (not_by_ended w r accepted within here kept)
    (each_round w rounds last accepted (next_within w r accepted within here kept (base_or rounds last) serial.0) (All-tail (IsAtSites w) r rounds at)
    (All-tail (IsReplayed w) r rounds h) serial.1)

pub ended_closes : EndedClosesNoRound
unfolding history_definitions
ended_closes w start counts h accepted within legal = go h.rounds legal.framed.starts legal.at_sites legal.replayed legal.serial
  where
    go :
        (rounds : List Round) → first_base rounds ≡ Some start → All (IsAtSites w) rounds → All (IsReplayed w) rounds →
        AreSerial w rounds h.last → All (NotByEnded w) rounds
    go [] starts at replayed serial = absurd (cc)
    go (r ∷ rounds) starts at replayed serial =
        let same : r.base ≡ start = cc in
        each_round w (r ∷ rounds) h.last accepted (subst (IsWithin (schema_of w)) (sym same) within) at replayed serial
