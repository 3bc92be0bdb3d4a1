-- What is made of each ground call of a workload, in their order.
use Rattle.std.proofs.Common.{◌≡◌, ℕ, ◌<◌, List, [], ◌∷◌, map, length, get_or, All, Some, sym, ap, ◌∙◌, subst, arith}
use Rattle.std.specs.Prelude.{slice_get}
use Rattle.std.proofs.lemmas.List.{get_or-map, length-map}
use Rattle.std.proofs.lemmas.List.Elements.{All-nil, All-cons}
use Rattle.std.proofs.lemmas.Simd.{map-map}
use Rattle.homeo_lemmas.proofs.Places.{one_placed}
use Rattle.homeo_syntax.specs.Low.{Command}
use Rattle.homeo_syntax.specs.Source as s
use Rattle.homeo_meaning.specs.Key.{definitions as meaning_definitions}
use Rattle.homeo_meaning.specs.Acceptance.{IsAccepted}
use Rattle.homeo_meaning.specs.GlobalNames.{SitedCall}
use Rattle.homeo_meaning.specs.Ground.{Ground, plain_ground, ground_of_sited, grounds}
use Rattle.homeo_meaning.specs.NumberRules.{ground_calls}
use Rattle.homeo_meaning.specs.declared.call.GroundCall.{GroundCall}
use Rattle.homeo_meaning.proofs.GroundCalls.{Every}
use Rattle.homeo_ground.proofs.Called.{are_called}
use Rattle.homeo_plan.specs.Key.{definitions as plan_definitions}
use Rattle.homeo_plan.specs.Planned.{sites_of, planned_call, planned, transformed}
use Rattle.homeo_plan.specs.Template.{PlannedCall, shifted}
use Rattle.homeo_plan.proofs.PlannedCalls.{StandsBelow, ground_sites_below}
use Rattle.homeo_build.specs.inner.Planning.{CanCompile}
use Rattle.homeo_build.proofs.FormsMade.{placed_map}

-- what is made of a ground call, as it is planned
abbrev pub of_call : {Z : Type 0} → s.Workload → (PlannedCall → Z) → GroundCall → Z
of_call w h call = h (planned_call w (plain_ground call))

pub of_calls :
    {Z : Type 0} (w : s.Workload) (h : PlannedCall → Z) (calls : List GroundCall) → map plain_ground calls ≡ grounds w →
    map (of_call w h) calls ≡ map h (planned w)
unfolding plan_definitions
of_calls w h calls are =
    sym (map-map (λ g. h (planned_call w g)) plain_ground calls) ∙ ap (map (λ g. h (planned_call w g))) are
    ∙ sym (map-map h (planned_call w) (grounds w))

pub ground_below : (w : s.Workload) (calls : List GroundCall) (n : ℕ) → map plain_ground calls ≡ grounds w → n < length (grounds w) → n < length calls
ground_below w calls n are within = omega (arith, ap length are, length-map calls plain_ground, within)

pub call_below : (w : s.Workload) (calls : List GroundCall) (n : ℕ) → map plain_ground calls ≡ grounds w → n < length calls → n < length (grounds w)
call_below w calls n are within = omega (arith, ap length are, length-map calls plain_ground, within)

-- the transformed command of a ground call is that at its place
pub command_is :
    (w : s.Workload) (calls : List GroundCall) (n : ℕ) (call : GroundCall) (c : Command) → map plain_ground calls ≡ grounds w → n < length calls →
    call ≡ get_or calls n call → slice_get (transformed w) n ≡ Some c → c ≡ shifted (sites_of w) (planned_call w (plain_ground call))
unfolding plan_definitions
command_is w calls n call c are within is at =
    one_placed (transformed w) n c (of_call w (shifted (sites_of w)) call) at
    (sym (ap (λ l. slice_get l n) (of_calls w (shifted (sites_of w)) calls are)) ∙ placed_map (of_call w (shifted (sites_of w))) calls n call within is)

-- ---- each can be compiled
all_below : (w : s.Workload) (us : List SitedCall) → Every (StandsBelow (sites_of w)) us → All (λ (g : Ground). g.site < sites_of w) (map (ground_of_sited w) us)
unfolding meaning_definitions
all_below w [] h = All-nil (λ (g : Ground). g.site < sites_of w)
all_below w (u ∷ us) h =
    All-cons (λ (g : Ground). g.site < sites_of w) (ground_of_sited w u) (map (ground_of_sited w) us) h.0 (all_below w us h.1)

pub can_compile : (w : s.Workload) → IsAccepted w → All (CanCompile w) (grounds w)
unfolding meaning_definitions
can_compile w accepted k g lt =
    record {
      called = are_called w accepted k g lt;
      site = all_below w (ground_calls w) (ground_sites_below w accepted) k g lt;
    }

pub can_here :
    (w : s.Workload) (calls : List GroundCall) (i : ℕ) (call : GroundCall) → IsAccepted w → map plain_ground calls ≡ grounds w →
    i < length calls → call ≡ get_or calls i call → CanCompile w (plain_ground call)
can_here w calls i call accepted are within is =
    let here : i < length (map plain_ground calls) = omega (arith, length-map calls plain_ground, within) in
    subst (CanCompile w) (get_or-map plain_ground calls i call (plain_ground call) within ∙ ap plain_ground (sym is))
    (subst (All (CanCompile w)) (sym are) (can_compile w accepted) i (plain_ground call) here)
