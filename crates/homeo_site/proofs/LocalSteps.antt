-- Base plus own deltas is within bounds at a site, before a call's local step and after it, whether or not it keeps the
-- treaty; so a site has no delta but of an object that there is.
use Rattle.std.proofs.Common.{◌≡◌, ℕ, zero, suc, ◌+◌, ◌<◌, ◌≤◌, List, [], ◌∷◌, map, length, get_or, ℤ, pos, ◌+ℤ◌, refl, ap, ◌∙◌, subst, arith}
use mathlib.Core.Path.{fun_ext}
use Rattle.std.proofs.lemmas.Int.{ints}
use Rattle.std.proofs.lemmas.List.{get_or_past}
use Rattle.homeo_syntax.specs.Source as s
use Rattle.homeo_meaning.specs.Key.{definitions as meaning_definitions}
use Rattle.homeo_meaning.specs.declared.call.CallId.{CallId}
use Rattle.homeo_meaning.specs.Acceptance.{IsAccepted}
use Rattle.homeo_meaning.specs.Bounds.{Bounds, all_bounds, IsIn, bounds_at, AllWithin, IsWithin}
use Rattle.homeo_meaning.specs.Schema.{schema_of}
use Rattle.homeo_meaning.specs.Serial.{values_of, values_from, database_like}
use Rattle.homeo_meaning.proofs.Within.{length_in}
use Rattle.homeo_plan.specs.Key.{definitions as plan_definitions}
use Rattle.homeo_plan.specs.Config.{Config, Fits}
use Rattle.homeo_plan.specs.Each.{Member}
use Rattle.homeo_plan.specs.Joined.{Deltas}
use Rattle.homeo_plan.specs.Local.{local_deltas, no_deltas}
use Rattle.homeo_plan.specs.Planned.{sites_of, planned, planned_at, template_at, policy}
use Rattle.homeo_plan.specs.Replay.{CanStep}
use Rattle.homeo_plan.specs.Template.{PlannedCall}
use Rattle.homeo_plan.specs.Treaty.{Treaty}
use Rattle.homeo_plan.proofs.OwnWithin.{step_within}
use Rattle.homeo_plan.proofs.PlannedCalls.{planned_member}
use Rattle.homeo_plan.proofs.Policy.{policy_fits}
use Rattle.homeo_plan.proofs.Replays.{can_step, replays_within}
use Rattle.homeo_history.specs.Key.{definitions as history_definitions}
use Rattle.homeo_history.specs.Legal.{IsCallAt}
use Rattle.homeo_delta.proofs.ValuesFrom.{values_are}
use Rattle.homeo_site.specs.Key.{definitions}
use Rattle.homeo_site.specs.SiteState.{SiteState, SiteHolds, step_values, step_deltas}
use Rattle.homeo_site.specs.inner.Ready.{IsReady}
use Rattle.homeo_site.proofs.CallsOfSites.{call_site, planned_calls, kept_along}

-- ---- lists and values by number
pub values_of_list : (base : List ℤ) (f : ℕ → ℤ) → ((n : ℕ) → length base ≤ n → f n ≡ pos 0) → values_of (database_like base f) ≡ f
unfolding meaning_definitions
values_of_list base f past = fun_ext at
  where
    at : (n : ℕ) → get_or (values_from 0 (length base) f) n (pos 0) ≡ f n
    at n =
        let same : (y : ℕ) → 0 + y ≡ y = λ y. omega arith in
        values_are 0 (length base) n f (λ y le. ap f (same y) ∙ past y le) ∙ ap f (same n)

count_from : (k n : ℕ) (f : ℕ → ℤ) → length (values_from k n f) ≡ n
count_from k zero f = refl
count_from k (suc n) f = ap suc (count_from (suc k) n f)

pub count_like : (base : List ℤ) (f : ℕ → ℤ) → length (database_like base f) ≡ length base
unfolding meaning_definitions
count_like base f = count_from 0 (length base) f

no_bounds_past : (bs : List Bounds) (n : ℕ) → length bs ≤ n → bounds_at bs n ≡ record { lo = pos 0; hi = pos 0 }
unfolding meaning_definitions
no_bounds_past [] n le = refl
no_bounds_past (b ∷ bs) zero le = absurd (omega arith)
no_bounds_past (b ∷ bs) (suc n) le = no_bounds_past bs n (omega arith)

-- an object's value that isn't there is 0, and so is its delta
pub no_delta_past :
    (w : s.Workload) (base : List ℤ) (x : Deltas) → IsWithin (schema_of w) base →
    AllWithin (schema_of w) (λ n. values_of base n +ℤ x n) → (n : ℕ) → length base ≤ n → x n ≡ pos 0
unfolding meaning_definitions
no_delta_past w base x within all n le =
    let bs : List Bounds = all_bounds (schema_of w) in
    let count : length base ≡ length bs = length_in bs base within in
    let past : length bs ≤ n = omega arith in
    let here : IsIn (record { lo = pos 0; hi = pos 0 }) (values_of base n +ℤ x n) =
    subst (λ b. IsIn b (values_of base n +ℤ x n)) (no_bounds_past bs n past) (all n) in
    let none : values_of base n ≡ pos 0 = get_or_past base n (pos 0) le in
    omega (arith, ints, here.0, here.1, none)

-- ---- a site
module _ (w : s.Workload) (x : SiteState) (accepted : IsAccepted w) (h : SiteHolds w x) where
  pub own_within : AllWithin (schema_of w) (λ n. values_of x.base n +ℤ values_of x.deltas n)
  unfolding plan_definitions history_definitions meaning_definitions
  own_within =
      subst (λ (d : Deltas). AllWithin (schema_of w) (λ n. values_of x.base n +ℤ d n)) h.replays
      (replays_within w x.base x.number (map (λ e. planned_at w e.call) x.segment) accepted h.within h.site
      (planned_calls w x.number x.segment h.calls) (kept_along w x.base x.number no_deltas x.segment h.keeps))

  pub ready : IsReady w x
  ready = record { site = h.site; within = h.within; count = h.count; meets = h.meets; all = own_within }

-- a planned call of a site leaves base plus deltas within bounds, by any configuration that fits
module _
    (w : s.Workload) (base : List ℤ) (config : Config) (i : ℕ) (x : Deltas) (accepted : IsAccepted w)
    (fits : Fits (sites_of w) (template_at w base).clauses config) (site : i < sites_of w) (meets : Treaty (template_at w base) config i x)
    (all : AllWithin (schema_of w) (λ n. values_of base n +ℤ x n)) (g : PlannedCall) (member : Member g (planned w)) (here : g.site ≡ i)
  where
    can : CanStep (schema_of w) (sites_of w) (values_of base) (template_at w base) i g
    unfolding plan_definitions
    can = (can_step w base i (g ∷ []) ((here, member), tt)).0

    pub stays_within : AllWithin (schema_of w) (λ n. values_of base n +ℤ local_deltas (sites_of w) (values_of base) g x n)
    stays_within = step_within (schema_of w) (sites_of w) (values_of base) (template_at w base) config i x g fits site can meets all

module _ (w : s.Workload) (x : SiteState) (accepted : IsAccepted w) (h : IsReady w x) where
  module _ (call : CallId) (at : IsCallAt w x.number call) where
    pub after_within : AllWithin (schema_of w) (λ n. values_of x.base n +ℤ step_values w x call n)
    unfolding history_definitions definitions
    after_within =
        stays_within w x.base (policy w x.base) x.number (values_of x.deltas) accepted (policy_fits w x.base accepted) h.site h.meets h.all
        (planned_at w call) (planned_member w call at.exists) (call_site w x.number call at)

    -- the list of the deltas after the step is the deltas after it
    pub step_list : values_of (step_deltas w x call) ≡ step_values w x call
    unfolding definitions
    step_list =
        values_of_list x.base (step_values w x call) (no_delta_past w x.base (step_values w x call) h.within after_within)
