-- The ground calls of a workload keep within bounds, and its templates cover them: so its replays stay within bounds.
use Rattle.homeo_meaning.specs.Key.{definitions as meaning_definitions}
use Rattle.homeo_plan.specs.Key.{definitions}
use Rattle.std.proofs.Common.{◌≡◌, ℕ, List, [], ◌∷◌, map, ℤ, pos, ◌+ℤ◌, sym, subst, ⊎_elim, arith, ◌<◌}
use mathlib.Core.Path.{fun_ext}
use Rattle.std.proofs.lemmas.Int.{ints}
use Rattle.homeo_syntax.specs.Source as s
use Rattle.homeo_meaning.specs.Bounds.{AllWithin, IsWithin}
use Rattle.homeo_meaning.specs.Ground as meaning
use Rattle.homeo_meaning.specs.Schema.{schema_of}
use Rattle.homeo_meaning.specs.Serial.{values_of}
use Rattle.homeo_meaning.proofs.Within.{all_within}
use Rattle.homeo_plan.specs.Each.{Each, Member}
use Rattle.homeo_meaning.specs.Whole.{IsWhole}
use Rattle.homeo_plan.specs.Template.{PlannedCall, Covers}
use Rattle.homeo_plan.specs.Local.{no_deltas, replay}
use Rattle.homeo_plan.specs.Planned.{sites_of, planned_call, planned, template_at, policy}
use Rattle.homeo_plan.specs.Soundness.{GroundSoundness}
use Rattle.homeo_plan.specs.Replay.{Stays, CanStep, KeepsAlong}
use Rattle.homeo_plan.proofs.Covering.{template_covers}
use Rattle.homeo_plan.proofs.GroundForms.{ground_stays}
use Rattle.homeo_plan.proofs.Local.{locally_sound}
use Rattle.homeo_plan.proofs.OwnWithin.{zero_keeps, own_within}
use Rattle.homeo_plan.proofs.Policy.{policy_fits}
use Rattle.homeo_meaning.specs.Acceptance.{IsAccepted}
use Rattle.homeo_lform.proofs.Wholes.{ground_whole}

-- ---- the ground calls
pub record IsPlanned (w : s.Workload) (g : PlannedCall) : Type 0 where
  pub from : meaning.Ground
  pub is : planned_call w from ≡ g

among : (w : s.Workload) (gs : List meaning.Ground) (g : PlannedCall) → Member g (map (planned_call w) gs) → IsPlanned w g
unfolding definitions meaning_definitions
among w [] g m = absurd m
among w (e ∷ gs) g m = ⊎_elim (λ q. record { from = e; is = q }) (λ n. among w gs g n) m

pub is_planned : (w : s.Workload) (g : PlannedCall) → Member g (planned w) → IsPlanned w g
unfolding definitions meaning_definitions
is_planned w g m = among w (meaning.grounds w) g m

pub planned_whole : (w : s.Workload) (g : PlannedCall) → Member g (planned w) → IsWhole g.command
unfolding definitions meaning_definitions
planned_whole w g m =
    let p = is_planned w g m in
    subst (λ (z : PlannedCall). IsWhole z.command) p.is (ground_whole w p.from)

pub planned_stays : (w : s.Workload) (g : PlannedCall) → Member g (planned w) → Stays (schema_of w) g.command
unfolding definitions meaning_definitions
planned_stays w g m =
    let p = is_planned w g m in
    subst (λ (z : PlannedCall). Stays (schema_of w) z.command) p.is (ground_stays w p.from)

pub planned_covers : (w : s.Workload) (base : List ℤ) (g : PlannedCall) → Member g (planned w) → Covers (template_at w base) (sites_of w) (values_of base) g
unfolding definitions meaning_definitions
planned_covers w base g m = template_covers (sites_of w) (values_of base) (planned w) g m

pub can_step :
    (w : s.Workload) (base : List ℤ) (i : ℕ) (gs : List PlannedCall) → Each (λ g. (g.site ≡ i) × Member g (planned w)) gs →
    Each (CanStep (schema_of w) (sites_of w) (values_of base) (template_at w base) i) gs
unfolding definitions meaning_definitions
can_step w base i [] h = tt
can_step w base i (g ∷ gs) h = (
  record { at_site = h.0.0; covers = planned_covers w base g h.0.1; whole = planned_whole w g h.0.1; stays = planned_stays w g h.0.1 },
  can_step w base i gs h.1,
)

no_change : (b : ℕ → ℤ) → (λ n. b n +ℤ no_deltas n) ≡ b
unfolding definitions meaning_definitions
no_change b = fun_ext at
  where
    at : (n : ℕ) → b n +ℤ pos 0 ≡ b n
    at n = omega (arith, ints)

pub replays_within :
    (w : s.Workload) (base : List ℤ) (i : ℕ) (gs : List PlannedCall) → IsAccepted w → IsWithin (schema_of w) base → i < sites_of w →
    Each (λ g. (g.site ≡ i) × Member g (planned w)) gs →
    KeepsAlong (sites_of w) (values_of base) (template_at w base) (policy w base) i no_deltas gs →
    AllWithin (schema_of w) (λ n. values_of base n +ℤ replay (sites_of w) (values_of base) gs no_deltas n)
unfolding definitions meaning_definitions
replays_within w base i gs accepted within lt calls keeps =
    let fits = policy_fits w base accepted in
    own_within (schema_of w) (sites_of w) (values_of base) (template_at w base) (policy w base) i no_deltas gs fits lt
    (can_step w base i gs calls) (zero_keeps (sites_of w) (template_at w base) (policy w base) i fits)
    (subst (AllWithin (schema_of w)) (sym (no_change (values_of base))) (all_within (schema_of w) base within)) keeps

pub ground_soundness : GroundSoundness
ground_soundness w base config d fits keeps g m lt =
    locally_sound (sites_of w) (values_of base) (template_at w base) config d fits keeps g (planned_covers w base g m) lt (planned_whole w g m)
