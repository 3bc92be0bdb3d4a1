-- The ground calls of an accepted workload are light, and the bases within its bounds are small.
use Rattle.std.proofs.Common.{◌≡◌, ℕ, true, arith, ◌<◌, List, ℤ, ◌+◌, ◌*◌}
use Rattle.homeo_syntax.specs.Source as s
use Rattle.homeo_meaning.specs.Key.{definitions as meaning_definitions}
use Rattle.homeo_meaning.specs.Acceptance.{weight_limit, IsAccepted}
use Rattle.homeo_meaning.specs.Bounds.{IsWithin}
use Rattle.homeo_meaning.specs.CallForm.{ground_form}
use Rattle.homeo_meaning.specs.LowWeights.{first_weights, is_light}
use Rattle.homeo_meaning.specs.Schema.{schema_of}
use Rattle.homeo_meaning.specs.Serial.{values_of}
use Rattle.homeo_meaning.specs.Small.{IsSmall}
use Rattle.homeo_meaning.proofs.LightCalls.{ground_call_light}
use Rattle.homeo_meaning.proofs.Sound.{sound}
use Rattle.homeo_meaning.proofs.Within.{all_within}
use Rattle.homeo_plan.specs.SmallForms.{HasSmallForms}
use Rattle.homeo_plan.specs.Split.{shift}
use Rattle.homeo_plan.specs.Table.{walk}
use Rattle.homeo_plan.proofs.GroundNumbers.{values_small}
use Rattle.homeo_plan.proofs.SmallForms.{small_forms}
use Rattle.homeo_meaning.specs.Ground.{Ground}
use Rattle.homeo_meaning.specs.Calls.{IsGroundCall}
use Rattle.homeo_meaning.specs.LowMeaning.{whole}
use Rattle.homeo_lform.proofs.Wholes.{ground_whole}

pub accepted_forms :
    (w : s.Workload) (g : Ground) (k i : ℕ) (base : List ℤ) → IsAccepted w → IsGroundCall w g.transaction g.args →
    IsWithin (schema_of w) base → i < k →
    HasSmallForms (2 * weight_limit + 1) (values_of base) (walk (shift k i (ground_form w g)) (whole (values_of base)))
unfolding meaning_definitions
accepted_forms w g k i base accepted ground within inside =
    let light : is_light weight_limit (ground_form w g) (first_weights (schema_of w)) ≡ true = ground_call_light w g.transaction g.args (sound w accepted) ground in
    let all = all_within (schema_of w) base within in
    let small : (n : ℕ) → IsSmall weight_limit (values_of base n) = λ n. omega (arith, values_small w accepted (values_of base) all n) in
    small_forms weight_limit (schema_of w) k i (ground_form w g) (values_of base) inside (ground_whole w g) all small light
