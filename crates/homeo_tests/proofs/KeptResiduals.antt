-- The residual of a planned call can be run at its site on the base, and writes that site's deltas alone.
use Rattle.std.proofs.Common.{◌≡◌, ℕ, zero, suc, ◌<◌, ◌==◌, true, List, [], ◌∷◌, map, slice_get, ℤ, Some, refl, sym, ap, subst, inl, inr}
use mathlib.Core.Path.{fun_ext}
use Rattle.homeo_lemmas.proofs.Integers.{cond_zero}
use Rattle.homeo_syntax.specs.Source as s
use Rattle.homeo_meaning.specs.Key.{definitions as meaning_definitions}
use Rattle.homeo_meaning.specs.Acceptance.{IsAccepted}
use Rattle.homeo_meaning.specs.Bounds.{AllWithin, IsWithin}
use Rattle.homeo_meaning.specs.LowMeaning.{Location, TempAt, BaseAt, DeltaAt, whole}
use Rattle.homeo_meaning.specs.Schema.{schema_of}
use Rattle.homeo_meaning.specs.Serial.{values_of}
use Rattle.homeo_meaning.proofs.Within.{all_within}
use Rattle.homeo_plan.specs.Key.{definitions as plan_definitions}
use Rattle.homeo_plan.specs.declared.rows.Residual.{Residual}
use Rattle.homeo_plan.specs.Each.{Member}
use Rattle.homeo_plan.specs.Joined.{alone}
use Rattle.homeo_plan.specs.Local.{no_deltas}
use Rattle.homeo_plan.specs.Needs.{IsStraight}
use Rattle.homeo_plan.specs.Planned.{sites_of, planned, template_at, policy}
use Rattle.homeo_plan.specs.PlanView.{plain_residual}
use Rattle.homeo_plan.specs.Template.{PlannedCall, base_row}
use Rattle.homeo_plan.proofs.Covering.{each_member}
use Rattle.homeo_plan.proofs.OwnWithin.{zero_keeps}
use Rattle.homeo_plan.proofs.PlannedCalls.{all_sites_below}
use Rattle.homeo_plan.proofs.Policy.{policy_fits}
use Rattle.homeo_split.specs.CanExec.{run_limit, can_exec_all}
use Rattle.homeo_build.specs.Key.{definitions as build_definitions}
use Rattle.homeo_build.specs.Plan.{SitedResidual, sited_residual, residual_at, residuals_at}
use Rattle.homeo_effect.specs.Touched.{WritesOwn}
use Rattle.homeo_history.specs.Key.{definitions as history_definitions}
use Rattle.homeo_site.proofs.StepFindings.{residual_straight}
use Rattle.homeo_site.proofs.StepsRun.{alone_runs}
use Rattle.homeo_forecast.proofs.Ready.{no_change}
use Rattle.homeo_tests.proofs.OwnWrites.{writes_own}

-- ---- on the base, before any call
base_is_alone : (b : ℕ → ℤ) (i : ℕ) → alone b i no_deltas ≡ whole b
unfolding plan_definitions meaning_definitions
base_is_alone b i = fun_ext at
  where
    at : (p : Location) → alone b i no_deltas p ≡ whole b p
    at (TempAt t) = refl
    at (BaseAt n) = refl
    at (DeltaAt n j) = cond_zero (j == i)

base_runs :
    (w : s.Workload) (base : List ℤ) (g : PlannedCall) → IsAccepted w → IsWithin (schema_of w) base → Member g (planned w) →
    g.site < sites_of w → can_exec_all run_limit (base_row (sites_of w) (values_of base) g).residual (whole (values_of base)) ≡ true
unfolding history_definitions
base_runs w base g accepted within member site =
    subst (λ s. can_exec_all run_limit (base_row (sites_of w) (values_of base) g).residual s ≡ true) (base_is_alone (values_of base) g.site)
    (alone_runs w base g.site no_deltas accepted within site
    (zero_keeps (sites_of w) (template_at w base) (policy w base) g.site (policy_fits w base accepted))
    (subst (AllWithin (schema_of w)) (no_change (values_of base)) (all_within (schema_of w) base within)) g member refl)

-- ---- the call of a residual
-- the call at number n, of which this is made
record Found (f : PlannedCall → SitedResidual) (gs : List PlannedCall) (n : ℕ) (q : SitedResidual) : Type 0 where
  call : PlannedCall
  there : slice_get gs n ≡ Some call
  member : Member call gs
  is : q ≡ f call

find : (f : PlannedCall → SitedResidual) (gs : List PlannedCall) (n : ℕ) (q : SitedResidual) → slice_get (map f gs) n ≡ Some q → Found f gs n q
unfolding plan_definitions
find f [] n q e = cc
find f (g ∷ gs) zero q e = record { call = g; there = refl; member = inl refl; is = cc }
find f (g ∷ gs) (suc n) q e =
    let rest = find f gs n q e in
    record { call = rest.call; there = rest.there; member = inr rest.member; is = rest.is }

-- ---- what is asked of a residual
pub record CanKeep (base : List ℤ) (r : Residual) : Type 0 where
  pub straight : IsStraight (plain_residual r)
  pub own : WritesOwn r.site (plain_residual r)
  pub small : can_exec_all run_limit (plain_residual r) (whole (values_of base)) ≡ true

module _
    (w : s.Workload) (base : List ℤ) (n : ℕ) (r : Residual) (given : slice_get (residuals_at w base) n ≡ Some (sited_residual r))
  where
    found : Found (residual_at (sites_of w) (values_of base)) (planned w) n (sited_residual r)
    unfolding build_definitions
    found = find (residual_at (sites_of w) (values_of base)) (planned w) n (sited_residual r) given

    commands_are : (base_row (sites_of w) (values_of base) found.call).residual ≡ plain_residual r
    unfolding build_definitions found
    commands_are = sym (ap (λ (q : SitedResidual). q.residual) found.is)

    site_is : found.call.site ≡ r.site
    unfolding build_definitions found
    site_is = sym (ap (λ (q : SitedResidual). q.site) found.is)

    pub can_keep : IsAccepted w → IsWithin (schema_of w) base → CanKeep base r
    can_keep accepted within =
        let g = found.call in
        let below : g.site < sites_of w = each_member (λ (h : PlannedCall). h.site < sites_of w) g (planned w) (all_sites_below w accepted) found.member in
        record {
          straight = subst IsStraight commands_are (residual_straight w base g found.member);
          own =
              subst (λ j. WritesOwn j (plain_residual r)) site_is
              (subst (WritesOwn g.site) commands_are (writes_own w base g found.member));
          small =
              subst (λ cs. can_exec_all run_limit cs (whole (values_of base)) ≡ true) commands_are
              (base_runs w base g accepted within found.member below);
        }
