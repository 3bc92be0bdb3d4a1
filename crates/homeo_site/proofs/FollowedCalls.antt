-- The L form of a ground call can be followed at a round's base, and its effect there is that of its place.
use Rattle.std.proofs.Common.{◌≡◌, ℕ, zero, suc, ◌<◌, List, [], ◌∷◌, map, length, slice_get, ℤ, Some, None, refl, sym, subst, arith}
use Rattle.std.specs.Prelude.{All, IfSome}
use Rattle.std.specs.declared.option.Option.{Option}
use Rattle.std.proofs.lemmas.List.Elements.{All-head, All-tail}
use Rattle.homeo_syntax.specs.Low.{Command}
use Rattle.homeo_syntax.specs.Source as s
use Rattle.homeo_syntax.specs.SourceView.{plain_workload}
use Rattle.homeo_meaning.specs.Acceptance.{IsAccepted}
use Rattle.homeo_meaning.specs.Bounds.{IsWithin}
use Rattle.homeo_meaning.specs.Calls.{IsGroundCall}
use Rattle.homeo_meaning.specs.Ground.{Ground, grounds}
use Rattle.homeo_meaning.specs.Schema.{schema_of}
use Rattle.homeo_meaning.specs.Serial.{values_of}
use Rattle.homeo_meaning.specs.Small.{IsSmall}
use Rattle.homeo_plan.specs.Key.{definitions as plan_definitions}
use Rattle.homeo_plan.specs.Limit.{form_limit}
use Rattle.homeo_plan.specs.Planned.{planned_call, planned}
use Rattle.homeo_plan.specs.Template.{PlannedCall}
use Rattle.homeo_follow.specs.Follow.{object_forms, followed}
use Rattle.homeo_follow.specs.FollowSizes.{CanBeFollowed}
use Rattle.homeo_follow.proofs.Weighed.{accepted_small}
use Rattle.homeo_ground.specs.Grounding.{IsCalled}
use Rattle.homeo_ground.proofs.Called.{are_called}
use Rattle.homeo_linear.specs.Effect.{IsEffect}
use Rattle.homeo_linear.specs.declared.effect.Effect.{Effect}
use Rattle.homeo_site.specs.SiteView.{StartValue}
use Rattle.homeo_site.specs.inner.Effects.{IsEffectAt}

-- ---- the ground call at a place
record GroundAt (w : s.Workload) (gs : List Ground) (n : ℕ) : Type 0 where
  from : Ground
  there : slice_get (map (planned_call w) gs) n ≡ Some (planned_call w from)
  called : IsGroundCall w from.transaction from.args

ground_at : (w : s.Workload) (gs : List Ground) (n : ℕ) → n < length gs → All (IsCalled w) gs → GroundAt w gs n
ground_at w [] n lt h = absurd (omega arith)
ground_at w (g ∷ gs) zero lt h = record { from = g; there = refl; called = (All-head (IsCalled w) g gs h).made }
ground_at w (g ∷ gs) (suc n) lt h =
    let r = ground_at w gs n (omega arith) (All-tail (IsCalled w) g gs h) in
    record { from = r.from; there = r.there; called = r.called }

pub can_follow :
    (w : s.Workload) (base : List ℤ) (place : ℕ) (f : Command) → IsAccepted w → IsWithin (schema_of w) base → place < length (grounds w) →
    ((g : PlannedCall) → slice_get (planned w) place ≡ Some g → f ≡ g.command) → CanBeFollowed (IsSmall form_limit) (object_forms (values_of base)) f
unfolding plan_definitions
can_follow w base place f accepted within lt is =
    let r = ground_at w (grounds w) place lt (are_called w accepted) in
    subst (CanBeFollowed (IsSmall form_limit) (object_forms (values_of base))) (sym (is (planned_call w r.from) r.there))
    (accepted_small w r.from base accepted r.called within).0

-- ---- its effect
pub effect_there :
    (v : StartValue) (place : ℕ) (f : Command) (bs : List ℤ) (o : Option Effect) → bs ≡ v.base →
    ((g : PlannedCall) → slice_get (planned (plain_workload v.work)) place ≡ Some g → f ≡ g.command) →
    IfSome o (IsEffect (followed (values_of bs) f)) → IfSome o (IsEffectAt v place)
effect_there v place f bs None same is h = tt
effect_there v place f bs (Some e) same is h = λ g at.
    subst (λ c. IsEffect (followed (values_of v.base) c) e) (is g at) (subst (λ b. IsEffect (followed (values_of b) f) e) same h)
