-- How large the L forms of an accepted workload's ground calls are, each and together.
use Rattle.std.proofs.Common.{◌≡◌, ℕ, ◌+◌, ◌≤◌, List, [], ◌∷◌, map, refl, sym, ap, ap₂, ◌∙◌, subst, arith}
use Rattle.std.specs.List.{sum_by}
use Rattle.std.proofs.lemmas.List.Sums.{sum_by-cons}
use Rattle.homeo_syntax.specs.Key.{definitions as syntax_definitions}
use Rattle.homeo_syntax.specs.Source as s
use Rattle.homeo_syntax.specs.WellFormed.{Each as Every}
use Rattle.homeo_meaning.specs.Key.{definitions as meaning_definitions}
use Rattle.homeo_meaning.specs.Acceptance.{IsAccepted}
use Rattle.homeo_meaning.specs.CallForm.{body_form}
use Rattle.homeo_meaning.specs.Ground.{ground_of_sited}
use Rattle.homeo_meaning.specs.GlobalNames.{SitedCall}
use Rattle.homeo_meaning.specs.LowSizes.{call_extent}
use Rattle.homeo_meaning.specs.NumberRules.{ground_calls}
use Rattle.homeo_meaning.specs.SizeRules.{extent_of}
use Rattle.homeo_ground.proofs.SizedCalls.{IsNamed, all_sized, all_named}
use Rattle.homeo_plan.specs.Key.{definitions as plan_definitions}
use Rattle.homeo_plan.specs.Each.{Each}
use Rattle.homeo_plan.specs.Planned.{sites_of, planned_call, planned}
use Rattle.homeo_plan.specs.Template.{PlannedCall}

-- the size of the L form of a planned call, on k sites
abbrev pub size_of : ℕ → PlannedCall → ℕ
size_of k g = (call_extent k g.command).size

module _ (w : s.Workload) where
  -- ---- planned calls
  same_size : (c : SitedCall) → IsNamed w c → (extent_of w c).size ≡ size_of (sites_of w) (planned_call w (ground_of_sited w c))
  unfolding meaning_definitions plan_definitions
  same_size c e = ap (λ o. (call_extent (sites_of w) (body_form w o c.args)).size) e

  planned_sized :
      (cs : List SitedCall) → Every (IsNamed w) cs → Every (λ c. (extent_of w c).size ≤ 200000) cs →
      Each (λ g. size_of (sites_of w) g ≤ 200000) (map (planned_call w) (map (ground_of_sited w) cs))
  unfolding plan_definitions syntax_definitions
  planned_sized [] e h = tt
  planned_sized (c ∷ cs) e h = (subst (λ n. n ≤ 200000) (same_size c e.0) h.0, planned_sized cs e.1 h.1)

  planned_total :
      (cs : List SitedCall) → Every (IsNamed w) cs →
      sum_by (λ c. (extent_of w c).size) cs ≡ sum_by (size_of (sites_of w)) (map (planned_call w) (map (ground_of_sited w) cs))
  unfolding syntax_definitions
  planned_total [] e = refl
  planned_total (c ∷ cs) e =
      sum_by-cons (λ d. (extent_of w d).size) c cs ∙ ap₂ ◌+◌ (same_size c e.0) (planned_total cs e.1)
      ∙ sym (sum_by-cons (size_of (sites_of w)) (planned_call w (ground_of_sited w c)) (map (planned_call w) (map (ground_of_sited w) cs)))

-- the planned calls of a workload are small, each and together
pub record AreSmall (w : s.Workload) : Type 0 where
  pub each : Each (λ g. size_of (sites_of w) g ≤ 200000) (planned w)
  pub together : sum_by (size_of (sites_of w)) (planned w) ≤ 2000000

pub planned_small : (w : s.Workload) → IsAccepted w → AreSmall w
unfolding meaning_definitions plan_definitions syntax_definitions
planned_small w accepted =
    let named = all_named w accepted in
    let sized = all_sized w accepted in
    let total = planned_total w (ground_calls w) named in
    record { each = planned_sized w (ground_calls w) named sized.each; together = omega (arith, total, sized.together) }
