-- The residual of a call can be run at its site alone, on own deltas that meet the treaty: each number that it meets there is
-- small.
use Rattle.std.proofs.Common.{◌≡◌, ℕ, ◌<◌, ◌≤◌, ◌+◌, ◌*◌, ◌==◌, true, false, cond, List, [], ◌∷◌, map, ℤ, pos, ◌+ℤ◌, All, refl, sym, ap, ◌∙◌, subst, arith, ⊎_elim}
use Rattle.std.specs.Int.RustNames.{unsigned_abs}
use Rattle.std.proofs.lemmas.Bool.Decides.{nat_tests}
use Rattle.std.proofs.lemmas.Nat.{mul-le}
use Rattle.std.proofs.lemmas.List.Elements.{All-head, All-tail}
use Rattle.homeo_syntax.specs.Source as s
use Rattle.homeo_meaning.specs.Key.{definitions as meaning_definitions}
use Rattle.homeo_meaning.specs.Acceptance.{weight_limit as largest, IsAccepted}
use Rattle.homeo_meaning.specs.Bounds.{AllWithin, IsWithin}
use Rattle.homeo_meaning.specs.CallForm.{ground_form}
use Rattle.homeo_meaning.specs.Calls.{IsGroundCall}
use Rattle.homeo_meaning.specs.Ground.{Ground, grounds}
use Rattle.homeo_meaning.specs.LowComputed.{CanRun}
use Rattle.homeo_meaning.specs.LowMeaning.{BaseAt, DeltaAt, State}
use Rattle.homeo_meaning.specs.Schema.{schema_of}
use Rattle.homeo_meaning.specs.Serial.{values_of}
use Rattle.homeo_meaning.specs.Small.{IsSmall}
use Rattle.homeo_meaning.proofs.Within.{all_within}
use Rattle.homeo_plan.specs.Key.{definitions as plan_definitions}
use Rattle.homeo_plan.specs.Each.{Member}
use Rattle.homeo_plan.specs.Joined.{Deltas, alone}
use Rattle.homeo_plan.specs.Planned.{sites_of, planned_call, planned, template_at, policy}
use Rattle.homeo_plan.specs.Split.{fold_state, shift}
use Rattle.homeo_plan.specs.Table.{Row, table, row_at, HasNoTemps}
use Rattle.homeo_plan.specs.Template.{PlannedCall, shifted, base_row}
use Rattle.homeo_plan.proofs.BoundSizes.{most}
use Rattle.homeo_plan.proofs.GroundNumbers.{values_small, fold_numbers}
use Rattle.homeo_plan.proofs.Local.{locally_sound}
use Rattle.homeo_plan.proofs.OwnWithin.{only, only_keeps, only_folded, alone_is_joined}
use Rattle.homeo_plan.proofs.Policy.{policy_fits}
use Rattle.homeo_plan.proofs.Replays.{planned_whole, planned_covers}
use Rattle.homeo_plan.proofs.Tables.{row_at_walk}
use Rattle.homeo_ground.specs.Grounding.{IsCalled}
use Rattle.homeo_ground.proofs.Called.{are_called}
use Rattle.homeo_split.specs.CanExec.{run_limit, can_exec, can_exec_all}
use Rattle.homeo_delta.specs.SmallParts.{HasSmallParts}
use Rattle.homeo_delta.proofs.SmallShifts.{runs_law}
use Rattle.homeo_history.specs.Replayed.{MeetsTreaty}
use Rattle.homeo_history.specs.Key.{definitions as history_definitions}
use Rattle.homeo_site.proofs.Limits.{few_sites}
use Rattle.homeo_site.proofs.WalkRuns.{residual_runs}

-- ---- a planned call is a ground call of some client
pub record HasGroundCall (w : s.Workload) (g : PlannedCall) : Type 0 where
  pub from : Ground
  pub is : planned_call w from ≡ g
  pub called : IsGroundCall w from.transaction from.args

made_among : (w : s.Workload) (gs : List Ground) (g : PlannedCall) → All (IsCalled w) gs → Member g (map (planned_call w) gs) → HasGroundCall w g
unfolding plan_definitions
made_among w [] g h m = absurd m
made_among w (from ∷ gs) g h m =
    ⊎_elim (λ q. record { from = from; is = q; called = (All-head (IsCalled w) from gs h).made })
    (λ n. made_among w gs g (All-tail (IsCalled w) from gs h) n) m

pub has_ground_call : (w : s.Workload) (g : PlannedCall) → IsAccepted w → Member g (planned w) → HasGroundCall w g
unfolding plan_definitions
has_ground_call w g accepted m = made_among w (grounds w) g (are_called w accepted) m

-- ---- a site alone
no_temps : (b : ℕ → ℤ) (i : ℕ) (x : Deltas) → HasNoTemps (alone b i x)
unfolding plan_definitions meaning_definitions
no_temps b i x t = refl

other_zero : (b : ℕ → ℤ) (i : ℕ) (x : Deltas) (n j : ℕ) → (i ≡ j → ⊥) → alone b i x (DeltaAt n j) ≡ pos 0
unfolding plan_definitions meaning_definitions
other_zero b i x n j apart = let q : (j == i) ≡ false = grind (arith, nat_tests) in ap (λ v. cond v (x n) (pos 0)) q

-- the values of the fold, and those of base plus own deltas
abbrev fold_values : ℕ → State → ℕ → ℤ
fold_values k s n = fold_state k s (BaseAt n)

abbrev own_values : (ℕ → ℤ) → Deltas → ℕ → ℤ
own_values b x n = b n +ℤ x n

alone_fold : (k : ℕ) (b : ℕ → ℤ) (i : ℕ) (x : Deltas) → i < k → fold_values k (alone b i x) ≡ own_values b x
unfolding plan_definitions meaning_definitions
alone_fold k b i x lt = ap (fold_values k) (alone_is_joined k b i x lt) ∙ only_folded k b i x lt

module _
    (w : s.Workload) (base : List ℤ) (i : ℕ) (own : Deltas) (accepted : IsAccepted w) (within : IsWithin (schema_of w) base)
    (site : i < sites_of w) (meets : MeetsTreaty w base i own) (all : AllWithin (schema_of w) (own_values (values_of base) own))
  where
    abbrev k : ℕ
    k = sites_of w

    abbrev b : ℕ → ℤ
    b = values_of base

    abbrev here : State
    here = alone b i own

    fold_within : AllWithin (schema_of w) (fold_values k here)
    fold_within = subst (AllWithin (schema_of w)) (sym (alone_fold k b i own site)) all

    small_parts : HasSmallParts k i most largest here
    unfolding meaning_definitions plan_definitions
    small_parts =
        record {
          fold = λ n. let small = values_small w accepted (fold_values k here) fold_within n in omega (arith, small);
          bases = λ n. values_small w accepted b (all_within (schema_of w) base within) n;
          others = λ n j lt apart. subst (λ v. unsigned_abs v ≤ most) (sym (other_zero b i own n j apart)) (omega arith);
        }

    module _ (g : PlannedCall) (member : Member g (planned w)) (at_site : g.site ≡ i) where
      -- the call's row is that of the base
      same_row : row_at (table (shifted k g)) here ≡ base_row k b g
      unfolding history_definitions
      same_row =
          let fits = policy_fits w base accepted in
          subst (λ s. row_at (table (shifted k g)) s ≡ base_row k b g) (sym (alone_is_joined k b i own site))
          (locally_sound k b (template_at w base) (policy w base) (only i own) fits
          (λ j l. only_keeps k (template_at w base) (policy w base) i own fits meets j) g (planned_covers w base g member)
          (subst (λ j. j < k) (sym at_site) site) (planned_whole w g member)).row

      call_runs : can_exec run_limit (shifted k g) here ≡ true
      unfolding plan_definitions
      call_runs =
          let m : HasGroundCall w g = has_ground_call w g accepted member in
          let few : k ≤ 16 = few_sites w accepted in
          let most_all : k * most ≤ 16 * most = mul-le k most 16 most few (omega arith) in
          let room : largest + k * most ≤ run_limit = omega arith in
          let command : ground_form w m.from ≡ g.command = ap (λ (c : PlannedCall). c.command) m.is in
          let computes : CanRun (IsSmall largest) (IsSmall largest) g.command (fold_state k here) =
          subst (λ c. CanRun (IsSmall largest) (IsSmall largest) c (fold_state k here)) command
          (fold_numbers w m.from k here accepted m.called (no_temps b i own) fold_within) in
          subst (λ j. can_exec run_limit (shift k j g.command) here ≡ true) (sym at_site)
          (runs_law k i most largest g.command here site (omega arith) room (planned_whole w g member) small_parts computes)

      -- the residual can be run at the site alone
      pub alone_runs : can_exec_all run_limit (base_row k b g).residual here ≡ true
      alone_runs =
          subst (λ (r : Row). can_exec_all run_limit r.residual here ≡ true)
          (sym (row_at_walk (shifted k g) here (no_temps b i own)) ∙ same_row) (residual_runs run_limit (shifted k g) here call_runs)
