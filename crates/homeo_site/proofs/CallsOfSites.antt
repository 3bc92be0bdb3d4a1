-- The calls of a site's clients are planned, at that site, and their entries replay as the planned calls do.
use Rattle.std.proofs.Common.{◌≡◌, ℕ, zero, suc, ◌<◌, List, [], ◌∷◌, ◌++◌, map, length, slice_get, ℤ, Some, All, refl, sym, ap, ◌∙◌, arith}
use Rattle.std.specs.Option.{option_map, option_map_or}
use Rattle.std.proofs.lemmas.List.Elements.{All-head, All-tail}
use Rattle.std.proofs.lemmas.Option.{same_Some}
use Rattle.homeo_syntax.specs.Low.{Skip}
use Rattle.homeo_syntax.specs.Source as s
use Rattle.homeo_meaning.specs.Key.{definitions as meaning_definitions}
use Rattle.homeo_meaning.specs.declared.call.CallId.{CallId}
use Rattle.homeo_meaning.specs.Ground.{Ground, grounds, ground_of}
use Rattle.homeo_meaning.specs.Schema.{nat_of}
use Rattle.homeo_meaning.specs.Serial.{values_of}
use Rattle.homeo_plan.specs.Key.{definitions as plan_definitions}
use Rattle.homeo_plan.specs.Each.{Each, Member}
use Rattle.homeo_plan.specs.Joined.{Deltas}
use Rattle.homeo_plan.specs.Planned.{sites_of, planned_call, planned, planned_at, template_at, policy}
use Rattle.homeo_plan.specs.Replay.{KeepsAlong}
use Rattle.homeo_plan.specs.Template.{PlannedCall}
use Rattle.homeo_plan.proofs.PlannedCalls.{KnownCall, known, planned_is, planned_member}
use Rattle.homeo_history.specs.Key.{definitions as history_definitions}
use Rattle.homeo_history.specs.History.{Entry}
use Rattle.homeo_history.specs.Legal.{IsCallAt}
use Rattle.homeo_history.specs.Replayed.{deltas_after, end_of, KeepsOne, KeepsAll}

pub call_site : (w : s.Workload) (i : ℕ) (call : CallId) → IsCallAt w i call → (planned_at w call).site ≡ i
unfolding plan_definitions meaning_definitions history_definitions
call_site w i call h =
    let n : KnownCall w call = known w call h.exists in
    ap (λ (g : PlannedCall). g.site) (planned_is w call n)
    ∙ same_Some _ i (sym (ap (λ o. option_map (λ (client : s.Client). nat_of client.site.value) o) n.found) ∙ h.at_site)

pub planned_calls :
    (w : s.Workload) (i : ℕ) (es : List Entry) → All (λ e. IsCallAt w i e.call) es →
    Each (λ g. (g.site ≡ i) × Member g (planned w)) (map (λ e. planned_at w e.call) es)
unfolding plan_definitions
planned_calls w i [] h = tt
planned_calls w i (e ∷ es) h =
    let here : IsCallAt w i e.call = All-head (λ (e : Entry). IsCallAt w i e.call) e es h in (
      (call_site w i e.call here, planned_member w e.call here.exists),
      planned_calls w i es (All-tail (λ (e : Entry). IsCallAt w i e.call) e es h),
    )

pub kept_along :
    (w : s.Workload) (base : List ℤ) (i : ℕ) (x : Deltas) (es : List Entry) → KeepsAll w base i x es →
    KeepsAlong (sites_of w) (values_of base) (template_at w base) (policy w base) i x (map (λ e. planned_at w e.call) es)
unfolding plan_definitions history_definitions
kept_along w base i x [] h = tt
kept_along w base i x (e ∷ es) h = (h.0.keeps, kept_along w base i (deltas_after w base e.call x) es h.1)

-- ---- one more entry
pub end_more :
    (w : s.Workload) (base : List ℤ) (es : List Entry) (e : Entry) (x : Deltas) →
    end_of w base (es ++ e ∷ []) x ≡ deltas_after w base e.call (end_of w base es x)
unfolding plan_definitions history_definitions
end_more w base [] e x = refl
end_more w base (d ∷ es) e x = end_more w base es e (deltas_after w base d.call x)

pub keeps_more :
    (w : s.Workload) (base : List ℤ) (i : ℕ) (es : List Entry) (e : Entry) (x : Deltas) → KeepsAll w base i x es →
    KeepsOne w base i (end_of w base es x) e → KeepsAll w base i x (es ++ e ∷ [])
unfolding plan_definitions history_definitions
keeps_more w base i [] e x h one = (one, tt)
keeps_more w base i (d ∷ es) e x h one = (h.0, keeps_more w base i es e (deltas_after w base d.call x) h.1 one)

-- ---- the planned call at a number
nothing : PlannedCall
nothing = record { site = 0; command = Skip }

planned_here :
    (w : s.Workload) (gs : List Ground) (n : ℕ) → n < length gs →
    slice_get (map (planned_call w) gs) n ≡ Some (option_map_or (planned_call w) (slice_get gs n) nothing)
planned_here w [] n lt = absurd (omega arith)
planned_here w (g ∷ gs) zero lt = refl
planned_here w (g ∷ gs) (suc n) lt = planned_here w gs n (omega arith)

pub planned_there :
    (w : s.Workload) (call : CallId) (n : ℕ) → n < length (grounds w) → slice_get (grounds w) n ≡ ground_of w call →
    slice_get (planned w) n ≡ Some (planned_at w call)
unfolding plan_definitions nothing
planned_there w call n lt ground =
    planned_here w (grounds w) n lt ∙ ap (λ g. Some (option_map_or (planned_call w) g nothing)) ground
