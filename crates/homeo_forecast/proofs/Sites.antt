-- The site of a call is that of its ground call.
use Rattle.std.proofs.Common.{◌≡◌, ℕ, ◌<◌, List, map, length, get_or, slice_get, Option, Some, sym, ap, ◌∙◌}
use Rattle.std.specs.Option.{option_map_or}
use Rattle.homeo_syntax.specs.Low.{Skip}
use Rattle.homeo_syntax.specs.Source as s
use Rattle.homeo_meaning.specs.declared.call.CallId.{CallId}
use Rattle.homeo_meaning.specs.declared.call.GroundCall.{GroundCall}
use Rattle.homeo_meaning.specs.Ground.{Ground, plain_ground, grounds, ground_of}
use Rattle.homeo_plan.specs.Key.{definitions as plan_definitions}
use Rattle.homeo_plan.specs.Planned.{planned_call, planned_at}
use Rattle.homeo_plan.specs.Template.{PlannedCall}
use Rattle.homeo_build.proofs.FormsMade.{placed_map}
use Rattle.homeo_build.proofs.GroundCalls.{ground_below}

pub ground_site :
    (w : s.Workload) (call : CallId) (n : ℕ) (calls : List GroundCall) (g : GroundCall) → map plain_ground calls ≡ grounds w →
    n < length (grounds w) → slice_get (grounds w) n ≡ ground_of w call → g ≡ get_or calls n g → (get_or calls n g).site ≡ (planned_at w call).site
unfolding plan_definitions
ground_site w call n calls g are within ground is =
    let there : slice_get (map plain_ground calls) n ≡ Some (plain_ground g) = placed_map plain_ground calls n g (ground_below w calls n are within) is in
    let found : Some (plain_ground g) ≡ ground_of w call = sym there ∙ ap (λ l. slice_get l n) are ∙ ground in
    let same : planned_call w (plain_ground g) ≡ planned_at w call =
    ap (λ (o : Option Ground). option_map_or (planned_call w) o (record { site = 0; command = Skip })) found in
    ap (λ (h : GroundCall). h.site) (sym is) ∙ ap (λ (h : PlannedCall). h.site) same
