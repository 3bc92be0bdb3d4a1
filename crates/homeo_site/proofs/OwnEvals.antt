-- A call's local step is its command, run on base plus own deltas.
use Rattle.std.proofs.Common.{◌≡◌, ℕ, ◌+◌, ◌*◌, ◌^◌, ◌<◌, ◌≤◌, true, List, [], ◌∷◌, suc, length, get_or, ℤ, pos, ◌+ℤ◌, ◌-ℤ◌, FitsSigned, refl, sym, ap, ap₂, ◌∙◌, subst, arith}
use Rattle.std.specs.Int.{w64}
use Rattle.std.specs.Int.RustNames.{unsigned_abs}
use Rattle.std.proofs.lemmas.Int.{ints, fits_signed_from_abs}
use Rattle.homeo_syntax.specs.Low.{Command}
use Rattle.homeo_syntax.specs.Source as s
use Rattle.homeo_meaning.specs.Key.{definitions as meaning_definitions}
use Rattle.homeo_meaning.specs.declared.call.CallId.{CallId}
use Rattle.homeo_meaning.specs.Acceptance.{IsAccepted}
use Rattle.homeo_meaning.specs.Bounds.{all_bounds, AllWithin, IsWithin}
use Rattle.homeo_meaning.specs.CallForm.{ground_form}
use Rattle.homeo_meaning.specs.Calls.{CallExists}
use Rattle.homeo_meaning.specs.LowMeaning.{BaseAt, exec, whole}
use Rattle.homeo_meaning.specs.NamesWithin.{NamesWithin}
use Rattle.homeo_meaning.specs.Schema.{schema_of}
use Rattle.homeo_meaning.specs.Serial.{values_of, values_from, database_like}
use Rattle.homeo_meaning.proofs.Within.{all_within, list_in, length_in}
use Rattle.homeo_lform.proofs.NamedWithin.{named_law}
use Rattle.homeo_plan.specs.Key.{definitions as plan_definitions}
use Rattle.homeo_plan.specs.Config.{Config, Fits}
use Rattle.homeo_plan.specs.Each.{Member}
use Rattle.homeo_plan.specs.Joined.{Deltas, folded, with_site}
use Rattle.homeo_plan.specs.Local.{local_prints, local_deltas}
use Rattle.homeo_plan.specs.Planned.{sites_of, planned, planned_at, template_at, policy}
use Rattle.homeo_plan.specs.Soundness.{StepsFold}
use Rattle.homeo_plan.specs.Template.{PlannedCall}
use Rattle.homeo_plan.specs.Treaty.{Treaty}
use Rattle.homeo_plan.proofs.GroundNumbers.{values_small}
use Rattle.homeo_plan.proofs.OwnWithin.{only, only_keeps, only_here, only_folded, only_again}
use Rattle.homeo_plan.proofs.PlannedCalls.{planned_member}
use Rattle.homeo_plan.proofs.Policy.{policy_fits}
use Rattle.homeo_plan.proofs.Replays.{planned_whole, planned_covers}
use Rattle.homeo_plan.proofs.Stepped.{stepped}
use Rattle.homeo_split.specs.CanExec.{run_limit, can_exec}
use Rattle.homeo_split.specs.Shape.{has_places}
use Rattle.homeo_split.proofs.WholePlaces.{places_law}
use Rattle.homeo_local.specs.OwnValues.{own_values, own_shape}
use Rattle.homeo_history.specs.Key.{definitions as history_definitions}
use Rattle.homeo_history.specs.Legal.{IsCallAt}
use Rattle.homeo_meaning.proofs.ValueLists.{values_like}
use Rattle.homeo_build.proofs.Planning.{form_runs}
use Rattle.homeo_site.specs.Key.{definitions}
use Rattle.homeo_site.specs.SiteState.{SiteState, step_prints, step_values, step_deltas}
use Rattle.homeo_site.specs.inner.Ready.{IsReady}
use Rattle.homeo_site.proofs.CallsOfSites.{call_site}
use Rattle.homeo_site.proofs.LocalSteps.{stays_within}
use Rattle.homeo_site.proofs.StepsRun.{HasGroundCall, has_ground_call}

small_fits : (v : ℤ) → unsigned_abs v ≤ 3 * 10 ^ 12 → FitsSigned w64 v
small_fits v h = fits_signed_from_abs w64 v (omega (arith, h))

less_small : (a b : ℤ) → unsigned_abs (a -ℤ b) ≤ unsigned_abs a + unsigned_abs b
less_small a b = grind (arith, ints)

-- ---- a list with the values of a function is that of the function
list_from : (k : ℕ) (xs : List ℤ) (f : ℕ → ℤ) → ((n : ℕ) → get_or xs n (pos 0) ≡ f (k + n)) → xs ≡ values_from k (length xs) f
list_from k [] f h = refl
list_from k (x ∷ xs) f h =
    let first : k + 0 ≡ k = omega arith in
    let next : (n : ℕ) → k + suc n ≡ suc k + n = λ n. omega arith in
    let here : x ≡ f k = h 0 ∙ ap f first in
    let rest : xs ≡ values_from (suc k) (length xs) f = list_from (suc k) xs f (λ n. h (suc n) ∙ ap f (next n)) in
    λ j. here j ∷ rest j

list_is : (base xs : List ℤ) (f : ℕ → ℤ) → length xs ≡ length base → ((n : ℕ) → values_of xs n ≡ f n) → xs ≡ database_like base f
unfolding meaning_definitions
list_is base xs f count h =
    let zero_on : (n : ℕ) → n ≡ 0 + n = λ n. omega arith in
    list_from 0 xs f (λ n. h n ∙ ap f (zero_on n)) ∙ ap (λ n. values_from 0 n f) count

-- ---- a call at a site
-- a site has these deltas, and keeps its treaty by a configuration that fits
pub record IsReadyBy (w : s.Workload) (base : List ℤ) (config : Config) (i : ℕ) (x : List ℤ) : Type 0 where
  pub site : i < sites_of w
  pub within : IsWithin (schema_of w) base
  pub count : length x ≡ length base
  pub fits : Fits (sites_of w) (template_at w base).clauses config
  pub meets : Treaty (template_at w base) config i (values_of x)
  pub all : AllWithin (schema_of w) (own_values base x)

module _
    (w : s.Workload) (base : List ℤ) (config : Config) (i : ℕ) (x : List ℤ) (accepted : IsAccepted w) (h : IsReadyBy w base config i x)
    (call : CallId) (exists : CallExists w call) (here : (planned_at w call).site ≡ i)
  where
    abbrev k : ℕ
    k = sites_of w

    abbrev b : ℕ → ℤ
    b = values_of base

    abbrev d : Deltas
    d = values_of x

    abbrev g : PlannedCall
    g = planned_at w call

    member : Member g (planned w)
    member = planned_member w call exists

    one : StepsFold k b (only i d) g i
    one =
        subst (StepsFold k b (only i d) g) here
        (stepped k b (template_at w base) config (only i d) h.fits
        (λ j l. only_keeps k (template_at w base) config i d h.fits h.meets j) g (planned_covers w base g member)
        (subst (λ j. j < k) (sym here) h.site) (planned_whole w g member))

    alone_is : folded k b (only i d) ≡ own_values base x
    alone_is = only_folded k b i d h.site

    eval_prints : (exec g.command (whole (own_values base x))).prints ≡ local_prints k b g d
    eval_prints =
        ap (λ y. (exec g.command (whole y)).prints) (sym alone_is) ∙ one.prints ∙ ap (local_prints k b g) (only_here i d)

    eval_values : (n : ℕ) → (exec g.command (whole (own_values base x))).state (BaseAt n) ≡ b n +ℤ local_deltas k b g d n
    eval_values n =
        ap (λ y. (exec g.command (whole y)).state (BaseAt n)) (sym alone_is)
        ∙ ap (λ (f : ℕ → ℤ). f n)
        (one.after ∙ ap (λ y. folded k b (with_site (only i d) i (local_deltas k b g y))) (only_here i d)
        ∙ ap (folded k b) (only_again i d (local_deltas k b g d)) ∙ only_folded k b i (local_deltas k b g d) h.site)

    -- what it needs
    ground : HasGroundCall w g
    ground = has_ground_call w g accepted member

    own_list : List ℤ
    own_list = database_like base (own_values base x)

    eval_runs : can_exec run_limit g.command (whole (own_values base x)) ≡ true
    unfolding own_list plan_definitions
    eval_runs =
        subst (λ c. can_exec run_limit c (whole (own_values base x)) ≡ true) (ap (λ (p : PlannedCall). p.command) ground.is)
        (subst (λ y. can_exec run_limit (ground_form w ground.from) (whole y) ≡ true)
        (values_like (schema_of w) base (own_values base x) h.within h.all)
        (form_runs w ground.from own_list accepted ground.called (list_in (schema_of w) base (own_values base x) h.within h.all)
        (subst (λ j. j < k) (sym (ap (λ (p : PlannedCall). p.site) ground.is ∙ here)) h.site)))

    eval_places : has_places (own_shape (length x)) g.command ≡ true
    unfolding plan_definitions meaning_definitions
    eval_places =
        subst (λ n. has_places (own_shape n) g.command ≡ true) (sym (h.count ∙ length_in (all_bounds (schema_of w)) base h.within))
        (places_law (length (all_bounds (schema_of w))) (length w.names) (own_shape (length (all_bounds (schema_of w)))) g.command (omega arith) (planned_whole w g member)
        (subst (NamesWithin (length (all_bounds (schema_of w))) (length w.names)) (ap (λ (c : PlannedCall). c.command) ground.is)
        (named_law w ground.from accepted)))

    eval_fits : (n : ℕ) → FitsSigned w64 (own_values base x n)
    eval_fits n = let small = values_small w accepted (own_values base x) h.all n in small_fits _ (omega (arith, small))

    -- what it leaves
    pub within_after : AllWithin (schema_of w) (λ n. b n +ℤ local_deltas k b g d n)
    within_after = stays_within w base config i d accepted h.fits h.site h.meets h.all g member here

    eval_deltas :
        (new : List ℤ) →
        ((n : ℕ) → let v = (exec g.command (whole (own_values base x))).state (BaseAt n) in FitsSigned w64 (v -ℤ b n) → values_of new n ≡ v -ℤ b n) →
        (n : ℕ) → values_of new n ≡ local_deltas k b g d n
    eval_deltas new left n =
        let v = (exec g.command (whole (own_values base x))).state (BaseAt n) in
        let is = eval_values n in
        let base_small = values_small w accepted b (all_within (schema_of w) base h.within) n in
        let after_small = values_small w accepted (λ m. b m +ℤ local_deltas k b g d m) within_after n in
        let v_small : unsigned_abs v ≤ 10 ^ 12 = subst (λ z. unsigned_abs z ≤ 10 ^ 12) (sym is) after_small in
        let there = left n (small_fits _ (omega (arith, less_small v (b n), v_small, base_small))) in
        omega (arith, ints, there, is)

    -- by another name of the command and of the base
    module _ (f : Command) (bs : List ℤ) (is : f ≡ g.command) (same : bs ≡ base) where
      pub run_places : has_places (own_shape (length x)) f ≡ true
      run_places = subst (λ c. has_places (own_shape (length x)) c ≡ true) (sym is) eval_places

      pub run_sums : (n : ℕ) → FitsSigned w64 (own_values bs x n)
      run_sums = subst (λ l. (n : ℕ) → FitsSigned w64 (own_values l x n)) (sym same) eval_fits

      pub run_small : can_exec run_limit f (whole (own_values bs x)) ≡ true
      run_small =
          subst (λ c. can_exec run_limit c (whole (own_values bs x)) ≡ true) (sym is)
          (subst (λ l. can_exec run_limit g.command (whole (own_values l x)) ≡ true) (sym same) eval_runs)

      pub run_prints : (ps : List ℤ) → ps ≡ (exec f (whole (own_values bs x))).prints → ps ≡ local_prints k b g d
      run_prints ps e = e ∙ ap₂ (λ c l. (exec c (whole (own_values l x))).prints) is same ∙ eval_prints

      pub run_deltas :
          (new : List ℤ) →
          ((n : ℕ) → let v = (exec f (whole (own_values bs x))).state (BaseAt n) in FitsSigned w64 (v -ℤ values_of bs n) → values_of new n ≡ v -ℤ values_of bs n) →
          (n : ℕ) → values_of new n ≡ local_deltas k b g d n
      run_deltas new left =
          eval_deltas new
          (subst
          (λ c. (n : ℕ) → let v = (exec c (whole (own_values base x))).state (BaseAt n) in FitsSigned w64 (v -ℤ b n) → values_of new n ≡ v -ℤ b n) is
          (subst
          (λ l. (n : ℕ) → let v = (exec f (whole (own_values l x))).state (BaseAt n) in FitsSigned w64 (v -ℤ values_of l n) → values_of new n ≡ v -ℤ values_of l n) same left))

-- ---- a call of a site's clients, by the policy
-- its command runs on base plus own deltas, and what it leaves is what the call's local step gives
pub record StepRuns (w : s.Workload) (x : SiteState) (call : CallId) (f : Command) (bs : List ℤ) : Type 0 where
  pub places : has_places (own_shape (length x.deltas)) f ≡ true
  pub sums : (n : ℕ) → FitsSigned w64 (own_values bs x.deltas n)
  pub small : can_exec run_limit f (whole (own_values bs x.deltas)) ≡ true
  pub prints : (ps : List ℤ) → ps ≡ (exec f (whole (own_values bs x.deltas))).prints → ps ≡ step_prints w x call
  pub deltas : (new : List ℤ) → length new ≡ length x.deltas →
      ((n : ℕ) → let v = (exec f (whole (own_values bs x.deltas))).state (BaseAt n) in FitsSigned w64 (v -ℤ values_of bs n) → values_of new n ≡ v -ℤ values_of bs n) →
      new ≡ step_deltas w x call

module _
    (w : s.Workload) (x : SiteState) (accepted : IsAccepted w) (h : IsReady w x) (call : CallId) (at : IsCallAt w x.number call) (f : Command) (bs : List ℤ)
    (is : f ≡ (planned_at w call).command) (same : bs ≡ x.base)
  where
    here : (planned_at w call).site ≡ x.number
    here = call_site w x.number call at

    ready : IsReadyBy w x.base (policy w x.base) x.number x.deltas
    unfolding history_definitions
    ready =
        record { site = h.site; within = h.within; count = h.count; fits = policy_fits w x.base accepted; meets = h.meets; all = h.all }

    list_left :
        (new : List ℤ) → length new ≡ length x.deltas → ((n : ℕ) → values_of new n ≡ step_values w x call n) → new ≡ step_deltas w x call
    unfolding definitions history_definitions
    list_left new count left = list_is x.base new (step_values w x call) (count ∙ h.count) left

    pub step_runs : StepRuns w x call f bs
    unfolding definitions history_definitions
    step_runs =
        let config = policy w x.base in
        record {
          places = run_places w x.base config x.number x.deltas accepted ready call at.exists here f bs is same;
          sums = run_sums w x.base config x.number x.deltas accepted ready call at.exists here f bs is same;
          small = run_small w x.base config x.number x.deltas accepted ready call at.exists here f bs is same;
          prints = run_prints w x.base config x.number x.deltas accepted ready call at.exists here f bs is same;
          deltas = λ new count left. list_left new count (run_deltas w x.base config x.number x.deltas accepted ready call at.exists here f bs is same new left);
        }

    pub value_left :
        (n : ℕ) → (exec (planned_at w call).command (whole (own_values x.base x.deltas))).state (BaseAt n) ≡ values_of x.base n +ℤ step_values w x call n
    unfolding definitions history_definitions
    value_left = eval_values w x.base (policy w x.base) x.number x.deltas accepted ready call at.exists here
