-- The values of the calls of an accepted workload are small.
use Rattle.std.proofs.Common.{◌≡◌, ℕ, ℤ, List, map, Some, subst}
use Rattle.std.specs.Prelude.{slice_get}
use Rattle.homeo_syntax.specs.Source as s
use Rattle.homeo_meaning.specs.Key.{definitions}
use Rattle.homeo_meaning.specs.Acceptance.{weight_limit, IsLightBody, IsAccepted}
use Rattle.homeo_meaning.specs.Bounds.{IsWithin}
use Rattle.homeo_meaning.specs.Calls.{IsGroundCall}
use Rattle.homeo_meaning.specs.Context.{context}
use Rattle.homeo_meaning.specs.Computed.{CanRunAll}
use Rattle.homeo_meaning.specs.Serial.{start}
use Rattle.homeo_meaning.specs.Schema.{schema_of}
use Rattle.homeo_meaning.specs.Small.{IsSmall}
use Rattle.homeo_eval.proofs.Outcomes.{body_runs}
use Rattle.homeo_meaning.proofs.LightCalls.{ground_call_light}
use Rattle.homeo_meaning.proofs.Sound.{sound}

pub fit : (w : s.Workload) (transaction : ℕ) (args : List ℤ) (t : s.Transaction) (database : List ℤ) → IsAccepted w → IsGroundCall w transaction args → slice_get w.transactions transaction ≡ Some t → IsWithin (schema_of w) database → CanRunAll (IsSmall weight_limit) (IsSmall weight_limit) (context (schema_of w) (map (λ p. p.name.name) t.params) args) t.body (start database)
unfolding definitions
fit w transaction args t database accepted ground e within =
    let light : IsLightBody w (Some t) args = subst (λ o. IsLightBody w o args) e (ground_call_light w transaction args (sound w accepted) ground) in
    (body_runs (schema_of w) (map (λ p. p.name.name) t.params) args t.body database within light).small
