-- A ground call of an accepted workload can be run at one of two sites that have not written yet, and the database folded
-- afterwards.
use Rattle.std.proofs.Common.{◌≡◌, ℕ, zero, suc, ◌+◌, ◌*◌, ◌<◌, ◌≤◌, true, List, [], ◌∷◌, map, length, ℤ, pos, refl, sym, ap, ap₂, ◌∙◌, subst, arith}
use mathlib.Core.Path.{fun_ext}
use Rattle.std.specs.Prelude.{replicate, slice_index_or}
use Rattle.std.specs.Int.RustNames.{unsigned_abs}
use Rattle.std.proofs.lemmas.Int.{ints}
use Rattle.std.proofs.lemmas.List.{length-map}
use Rattle.homeo_lemmas.proofs.Lists.{length_zeros}
use Rattle.homeo_syntax.specs.Low.{Command}
use Rattle.homeo_syntax.specs.Source.{Workload}
use Rattle.homeo_syntax.specs.declared.low.SplitName.TheVariants.{Base, Delta}
use Rattle.homeo_meaning.specs.Key.{definitions as meaning_definitions}
use Rattle.homeo_meaning.specs.Acceptance.{weight_limit as largest, IsAccepted}
use Rattle.homeo_meaning.specs.Bounds.{AllWithin, IsWithin, all_bounds}
use Rattle.homeo_meaning.specs.CallForm.{ground_form}
use Rattle.homeo_meaning.specs.Calls.{IsGroundCall}
use Rattle.homeo_meaning.specs.Ground.{Ground}
use Rattle.homeo_meaning.specs.LowComputed.{CanRun}
use Rattle.homeo_meaning.specs.LowMeaning.{State, BaseAt, DeltaAt, location_of, exec}
use Rattle.homeo_meaning.specs.Schema.{schema_of}
use Rattle.homeo_meaning.specs.Serial.{values_of}
use Rattle.homeo_meaning.specs.Small.{IsSmall}
use Rattle.homeo_meaning.proofs.Within.{all_within, length_in}
use Rattle.homeo_lform.proofs.NamedWithin.{named_law}
use Rattle.homeo_lform.proofs.Wholes.{ground_whole}
use Rattle.homeo_plan.specs.Key.{definitions}
use Rattle.homeo_plan.specs.Split.{fold_state, shift}
use Rattle.homeo_plan.specs.Table.{HasNoTemps}
use Rattle.homeo_plan.proofs.BoundSizes.{most}
use Rattle.homeo_plan.proofs.GroundNumbers.{values_small, fold_numbers}
use Rattle.homeo_plan.proofs.SameFolds.{same_folds}
use Rattle.homeo_split.specs.Key.{definitions as split_definitions}
use Rattle.homeo_split.specs.CanExec.{run_limit, can_exec}
use Rattle.homeo_split.specs.Shape.{Shape, shape_of, has_places}
use Rattle.homeo_split.specs.States.{state_with, state_of, AgreeOnNames}
use Rattle.homeo_split.specs.declared.split.Split.{Split}
use Rattle.homeo_split.proofs.Copies.{lengths}
use Rattle.homeo_fold.specs.Folding.{SumsFit}
use Rattle.homeo_delta.specs.SmallParts.{HasSmallParts}
use Rattle.homeo_delta.proofs.ShiftedPlaces.{places_law}
use Rattle.homeo_delta.proofs.SmallShifts.{runs_law, leaves_law}
use Rattle.homeo_fold.proofs.SmallFolds.{sums_law}
use Rattle.homeo_plan_tests.specs.inner.CallExample.{zeros, IsUndivided}

zeros_at : (n x : ℕ) → slice_index_or (replicate n (pos 0)) x (pos 0) ≡ pos 0
zeros_at zero x = refl
zeros_at (suc n) zero = refl
zeros_at (suc n) (suc x) = zeros_at n x

-- parts of a state are those of one that agrees with it
agreeing_parts : (k i a b : ℕ) (s u : State) → AgreeOnNames s u → HasSmallParts k i a b u → HasSmallParts k i a b s
unfolding meaning_definitions
agreeing_parts k i a b s u agree h =
    record {
      fold = λ x. subst (IsSmall b) (sym (same_folds s u agree k x)) (h.fold x);
      bases = λ x. subst (IsSmall a) (sym (agree (Base x))) (h.bases x);
      others = λ x j lt apart. subst (IsSmall a) (sym (agree (Delta x j))) (h.others x j lt apart);
    }

-- ---- the database that the sites have not written yet
abbrev started : List ℤ → State
started database = state_with database (zeros database ∷ zeros database ∷ []) (λ t. pos 0)

start_is : (database : List ℤ) (s : Split) → IsUndivided database s → state_of s ≡ started database
unfolding split_definitions
start_is database s is = λ i. state_with (is.base i) (is.deltas i) (λ t. pos 0)

start_shape :
    (database : List ℤ) (s : Split) → IsUndivided database s →
    shape_of s ≡ record { base = length database; deltas = length (zeros database) ∷ length (zeros database) ∷ [] }
unfolding split_definitions
start_shape database s is =
    let counts = lengths (λ d. d.items) s.deltas.items ∙ ap (map length) is.deltas in
    λ i. record { base = length (is.base i); deltas = counts i }

no_temps : (database : List ℤ) → HasNoTemps (started database)
unfolding definitions
no_temps database t = refl

delta_zero : (database : List ℤ) (x j : ℕ) → started database (DeltaAt x j) ≡ pos 0
delta_zero database x zero = zeros_at (length database) x
delta_zero database x (suc zero) = zeros_at (length database) x
delta_zero database x (suc (suc j)) = refl

fold_base : (database : List ℤ) (x : ℕ) → fold_state 2 (started database) (BaseAt x) ≡ values_of database x
unfolding definitions meaning_definitions
fold_base database x = omega (arith, ints, delta_zero database x 0, delta_zero database x 1)

-- ---- the call
module _
    (w : Workload) (g : Ground) (database : List ℤ) (i : ℕ) (accepted : IsAccepted w) (called : IsGroundCall w g.transaction g.args)
    (within : IsWithin (schema_of w) database) (site : i < 2)
  where
    small_values : (x : ℕ) → unsigned_abs (values_of database x) ≤ most
    small_values = values_small w accepted (values_of database) (all_within (schema_of w) database within)

    parts : HasSmallParts 2 i most largest (started database)
    unfolding meaning_definitions
    parts =
        record {
          fold = λ x. subst (λ v. unsigned_abs v ≤ largest) (sym (fold_base database x)) (omega (arith, small_values x));
          bases = λ x. small_values x;
          others = λ x j lt apart. subst (λ v. unsigned_abs v ≤ most) (sym (delta_zero database x j)) (omega arith);
        }

    fold_within : AllWithin (schema_of w) (λ x. fold_state 2 (started database) (BaseAt x))
    fold_within = subst (AllWithin (schema_of w)) (sym (fun_ext (fold_base database))) (all_within (schema_of w) database within)

    computes : CanRun (IsSmall largest) (IsSmall largest) (ground_form w g) (fold_state 2 (started database))
    computes = fold_numbers w g 2 (started database) accepted called (no_temps database) fold_within

    runs : can_exec run_limit (shift 2 i (ground_form w g)) (started database) ≡ true
    runs = runs_law 2 i most largest (ground_form w g) (started database) site (omega arith) (omega arith) (ground_whole w g) parts computes

    left : HasSmallParts 2 i most largest (exec (shift 2 i (ground_form w g)) (started database)).state
    left = leaves_law 2 i most largest (ground_form w g) (started database) site (omega arith) (ground_whole w g) parts computes

    pub can_run : (s : Split) (c : Command) → IsUndivided database s → c ≡ shift 2 i (ground_form w g) → can_exec run_limit c (state_of s) ≡ true
    can_run s c is e = ap₂ (can_exec run_limit) e (start_is database s is) ∙ runs

    pub has_sites : (s : Split) (c : Command) → IsUndivided database s → c ≡ shift 2 i (ground_form w g) → has_places (shape_of s) c ≡ true
    unfolding meaning_definitions
    has_sites s c is e =
        ap₂ has_places (start_shape database s is) e
        ∙ places_law (length (all_bounds (schema_of w))) (length w.names)
        (record { base = length database; deltas = length (zeros database) ∷ length (zeros database) ∷ [] })
        2 i (ground_form w g) (enough i site) (ground_whole w g) (named_law w g accepted)
      where
        count : length (all_bounds (schema_of w)) ≡ length (zeros database)
        count = sym (length_in (all_bounds (schema_of w)) database within) ∙ sym (length_zeros (length database))

        enough : (j : ℕ) → j < 2 → length (all_bounds (schema_of w)) ≤ slice_index_or (length (zeros database) ∷ length (zeros database) ∷ []) j 0
        enough zero lt = omega (arith, count)
        enough (suc zero) lt = omega (arith, count)
        enough (suc (suc j)) lt = absurd (omega arith)

    pub can_fold :
        (old new : Split) (c : Command) → IsUndivided database old → c ≡ shift 2 i (ground_form w g) →
        AgreeOnNames (state_of new) (exec c (state_of old)).state → shape_of new ≡ shape_of old → SumsFit new
    unfolding split_definitions
    can_fold old new c is e agree shape =
        let same : (exec c (state_of old)).state ≡ (exec (shift 2 i (ground_form w g)) (started database)).state =
        ap₂ (λ d st. (exec d st).state) e (start_is database old is) in
        let new_parts : HasSmallParts 2 i most largest (state_of new) =
        agreeing_parts 2 i most largest (state_of new) (exec (shift 2 i (ground_form w g)) (started database)).state
        (λ x. agree x ∙ ap (λ (st : State). st (location_of x)) same) left in
        let sites : length new.deltas.items ≡ 2 =
        sym (length-map new.deltas.items (λ d. length d.items)) ∙ ap (λ (h : Shape). length h.deltas) (shape ∙ start_shape database old is) in
        sums_law i most largest new (subst (λ n. i < n) (sym sites) site)
        (subst (λ n. largest + n * most ≤ run_limit) (sym sites) (omega arith))
        (subst (λ n. HasSmallParts n i most largest (state_of new)) (sym sites) new_parts)
