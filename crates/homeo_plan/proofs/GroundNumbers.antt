-- The numbers of a database within the bounds of an accepted workload are small, and so is what a ground call computes on it.
use Rattle.homeo_meaning.specs.Key.{definitions as meaning_definitions}
use Rattle.homeo_plan.specs.Key.{definitions}
use Rattle.std.proofs.Common.{◌≡◌, ℕ, ◌≤◌, ℤ, List, map, Option, Some, None, slice_get, refl, sym, subst, arith}
use mathlib.Core.Path.{fun_ext}
use Rattle.std.specs.Int.RustNames.{unsigned_abs}
use Rattle.homeo_syntax.specs.Source as s
use Rattle.homeo_meaning.specs.declared.call.Purpose.TheVariants.{Run}
use Rattle.homeo_meaning.specs.Acceptance.{weight_limit, IsAccepted, IsLightBody}
use Rattle.homeo_meaning.specs.Bounds.{AllWithin, all_bounds}
use Rattle.homeo_meaning.specs.CallForm.{body_form, ground_form}
use Rattle.homeo_meaning.specs.Calls.{IsGroundCall}
use Rattle.homeo_meaning.specs.Ground.{Ground}
use Rattle.homeo_meaning.specs.LowComputed.{CanRun}
use Rattle.homeo_meaning.specs.LowMeaning.{Location, TempAt, BaseAt, DeltaAt, State, whole}
use Rattle.homeo_meaning.specs.Schema.{schema_of}
use Rattle.homeo_meaning.specs.Small.{IsSmall}
use Rattle.homeo_meaning.proofs.FaultParts.{NoFault, parts}
use Rattle.homeo_meaning.proofs.LightCalls.{ground_call_light}
use Rattle.homeo_meaning.proofs.Sound.{sound}
use Rattle.homeo_lform.proofs.Light.{light_law, size_at}
use Rattle.homeo_plan.specs.Split.{fold_state}
use Rattle.homeo_plan.specs.Table.{HasNoTemps}
use Rattle.homeo_plan.proofs.BoundSizes.{most, bounds_small}

pub values_small :
    (w : s.Workload) → IsAccepted w → (values : ℕ → ℤ) → AllWithin (schema_of w) values → (n : ℕ) → unsigned_abs (values n) ≤ most
unfolding meaning_definitions
values_small w accepted values all n =
    let p : NoFault Run w = parts Run w accepted.rules in
    omega (arith, size_at (all_bounds (schema_of w)) n (values n) (all n), bounds_small w p.text.declared n)

body_numbers :
    (w : s.Workload) (t : Option s.Transaction) (args : List ℤ) (values : ℕ → ℤ) → AllWithin (schema_of w) values →
    IsLightBody w t args → CanRun (IsSmall weight_limit) (IsSmall weight_limit) (body_form w t args) (whole values)
unfolding meaning_definitions
body_numbers w None args values all light = tt
body_numbers w (Some t) args values all light =
    (light_law weight_limit (schema_of w) (map (λ p. p.name.name) t.params) args t.body values all light).form

pub ground_numbers :
    (w : s.Workload) (g : Ground) → IsAccepted w → IsGroundCall w g.transaction g.args → (values : ℕ → ℤ) →
    AllWithin (schema_of w) values → CanRun (IsSmall weight_limit) (IsSmall weight_limit) (ground_form w g) (whole values)
unfolding meaning_definitions
ground_numbers w g accepted ground values all =
    body_numbers w (slice_get w.transactions g.transaction) g.args values all
    (ground_call_light w g.transaction g.args (sound w accepted) ground)

-- ---- on the fold of a split database
fold_whole : (k : ℕ) (u : State) → HasNoTemps u → (p : Location) → whole (λ x. fold_state k u (BaseAt x)) p ≡ fold_state k u p
unfolding definitions meaning_definitions
fold_whole k u none (TempAt t) = sym (none t)
fold_whole k u none (BaseAt x) = refl
fold_whole k u none (DeltaAt x j) = refl

pub fold_numbers :
    (w : s.Workload) (g : Ground) (k : ℕ) (u : State) → IsAccepted w → IsGroundCall w g.transaction g.args → HasNoTemps u →
    AllWithin (schema_of w) (λ x. fold_state k u (BaseAt x)) → CanRun (IsSmall weight_limit) (IsSmall weight_limit) (ground_form w g) (fold_state k u)
fold_numbers w g k u accepted ground none all =
    subst (CanRun (IsSmall weight_limit) (IsSmall weight_limit) (ground_form w g)) (fun_ext (fold_whole k u none))
    (ground_numbers w g accepted ground (λ x. fold_state k u (BaseAt x)) all)
