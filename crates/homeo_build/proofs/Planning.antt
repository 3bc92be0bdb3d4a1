-- Each ground call of an accepted workload can be planned at each base within bounds.
use Rattle.std.proofs.Common.{◌≡◌, ℕ, ◌+◌, ◌*◌, ◌<◌, ◌≤◌, true, List, ℤ, refl, sym, subst, arith}
use mathlib.Core.Path.{fun_ext}
use Rattle.std.specs.Int.RustNames.{unsigned_abs}
use Rattle.std.proofs.lemmas.Int.{ints}
use Rattle.homeo_syntax.specs.Source as s
use Rattle.homeo_meaning.specs.Key.{definitions as meaning_definitions}
use Rattle.homeo_meaning.specs.Acceptance.{weight_limit as largest, IsAccepted}
use Rattle.homeo_meaning.specs.Bounds.{AllWithin, IsWithin}
use Rattle.homeo_meaning.specs.CallForm.{ground_form}
use Rattle.homeo_meaning.specs.Calls.{IsGroundCall}
use Rattle.homeo_meaning.specs.Ground.{Ground}
use Rattle.homeo_meaning.specs.LowComputed.{CanRun}
use Rattle.homeo_meaning.specs.LowMeaning.{Location, TempAt, BaseAt, DeltaAt, whole}
use Rattle.homeo_meaning.specs.Schema.{schema_of}
use Rattle.homeo_meaning.specs.Serial.{values_of}
use Rattle.homeo_meaning.specs.Small.{IsSmall}
use Rattle.homeo_meaning.proofs.Within.{all_within}
use Rattle.homeo_lform.proofs.Wholes.{ground_whole}
use Rattle.homeo_plan.specs.Key.{definitions as plan_definitions}
use Rattle.homeo_plan.specs.Limit.{form_limit}
use Rattle.homeo_plan.specs.Needs.{IsStraight}
use Rattle.homeo_plan.specs.Planned.{sites_of, planned_call}
use Rattle.homeo_plan.specs.SmallForms.{HasSmallForms}
use Rattle.homeo_plan.specs.Split.{fold_state, shift}
use Rattle.homeo_plan.specs.Table.{Row, table, row_at, walk}
use Rattle.homeo_plan.specs.Template.{shifted}
use Rattle.homeo_plan.proofs.AcceptedForms.{accepted_forms}
use Rattle.homeo_plan.proofs.BoundSizes.{most}
use Rattle.homeo_plan.proofs.GroundNumbers.{values_small, fold_numbers}
use Rattle.homeo_plan.proofs.Straight.{walk_straight}
use Rattle.homeo_plan.proofs.Sums.{sum_zero}
use Rattle.homeo_plan.proofs.Tables.{row_at_walk}
use Rattle.homeo_plan.proofs.Wider.{wider_forms}
use Rattle.homeo_split.specs.CanExec.{run_limit, can_exec}
use Rattle.homeo_split.proofs.SmallCommands.{small_law}
use Rattle.homeo_follow.proofs.PlannedAtoms.{no_temps}
use Rattle.homeo_delta.specs.SmallParts.{HasSmallParts}
use Rattle.homeo_delta.proofs.SmallShifts.{runs_law}
use Rattle.homeo_build.specs.inner.Planning.{CanPlan}
use Rattle.homeo_build.proofs.FewSites.{sites_few}

-- ---- a base without deltas
fold_base : (k : ℕ) (b : ℕ → ℤ) (x : ℕ) → fold_state k (whole b) (BaseAt x) ≡ b x
unfolding plan_definitions meaning_definitions
fold_base k b x = omega (arith, ints, sum_zero 0 k)

-- ---- a ground call at a base
module _
    (w : s.Workload) (g : Ground) (base : List ℤ) (accepted : IsAccepted w) (called : IsGroundCall w g.transaction g.args)
    (within : IsWithin (schema_of w) base) (site : g.site < sites_of w)
  where
    k : ℕ
    k = sites_of w

    b : ℕ → ℤ
    b = values_of base

    small_values : (x : ℕ) → unsigned_abs (b x) ≤ most
    unfolding b
    small_values = values_small w accepted (values_of base) (all_within (schema_of w) base within)

    parts : HasSmallParts k g.site most largest (whole b)
    unfolding meaning_definitions
    parts =
        record {
          fold = λ x. subst (λ v. unsigned_abs v ≤ largest) (sym (fold_base k b x)) (omega (arith, small_values x));
          bases = λ x. small_values x;
          others = λ x j lt apart. omega arith;
        }

    fold_within : AllWithin (schema_of w) (λ x. fold_state k (whole b) (BaseAt x))
    unfolding b
    fold_within = subst (AllWithin (schema_of w)) (sym (fun_ext (fold_base k b))) (all_within (schema_of w) base within)

    fold_whole : fold_state k (whole b) ≡ whole b
    unfolding plan_definitions meaning_definitions
    fold_whole = fun_ext at
      where
        at : (p : Location) → fold_state k (whole b) p ≡ whole b p
        at (TempAt t) = refl
        at (BaseAt x) = fold_base k b x
        at (DeltaAt x j) = refl

    computes : CanRun (IsSmall largest) (IsSmall largest) (ground_form w g) (fold_state k (whole b))
    computes = fold_numbers w g k (whole b) accepted called (no_temps b) fold_within

    -- its command over whole objects can be run there
    pub form_runs : can_exec run_limit (ground_form w g) (whole (values_of base)) ≡ true
    unfolding b
    form_runs =
        small_law largest (ground_form w g) (whole b) (omega arith)
        (subst (CanRun (IsSmall largest) (IsSmall largest) (ground_form w g)) fold_whole computes)

    few : largest + k * most ≤ run_limit
    unfolding k plan_definitions
    few = let n = (sites_few w accepted).few in omega (arith, n)

    runs : can_exec run_limit (shift k g.site (ground_form w g)) (whole b) ≡ true
    unfolding k
    runs = runs_law k g.site most largest (ground_form w g) (whole b) site (omega arith) few (ground_whole w g) parts computes

    row_is : walk (shift k g.site (ground_form w g)) (whole b) ≡ row_at (table (shift k g.site (ground_form w g))) (whole b)
    row_is = sym (row_at_walk (shift k g.site (ground_form w g)) (whole b) (no_temps b))

    small : HasSmallForms form_limit b (walk (shift k g.site (ground_form w g)) (whole b))
    unfolding k b
    small =
        wider_forms form_limit (2 * largest + 1) b (walk (shift k g.site (ground_form w g)) (whole b)) (omega arith)
        (accepted_forms w g k g.site base accepted called within site)

    pub can_plan : CanPlan (shifted (sites_of w) (planned_call w g)) base
    unfolding plan_definitions k b
    can_plan =
        record {
          runs = runs;
          small = subst (HasSmallForms form_limit b) row_is small;
          straight = subst (λ (r : Row). IsStraight r.residual) row_is (walk_straight k g.site (ground_form w g) (whole b) (ground_whole w g));
        }
