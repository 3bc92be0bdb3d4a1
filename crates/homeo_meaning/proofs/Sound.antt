-- What acceptance says that evaluation rests on.
use Rattle.std.proofs.Common.{◌≤◌, All, length}
use Rattle.homeo_syntax.specs.Source as s
use Rattle.homeo_meaning.specs.Key.{definitions}
use Rattle.homeo_meaning.specs.declared.call.Purpose.TheVariants.{Run}
use Rattle.homeo_meaning.specs.Schema.{schema_of}
use Rattle.homeo_meaning.specs.Context.{object_count}
use Rattle.homeo_meaning.specs.Bounds.{IsWithin}
use Rattle.homeo_meaning.specs.Initial.{initial}
use Rattle.homeo_meaning.specs.Acceptance.{IsAccepted}
use Rattle.homeo_meaning.specs.inner.LightCalls.{IsLightCall}
use Rattle.homeo_meaning.proofs.FaultParts.{NoTextFault, NoFault, parts, declared_parts}
use Rattle.homeo_meaning.proofs.SoundRules.{all-light}
use Rattle.homeo_meaning.proofs.SoundRelations.{SlotsFit, slots-fit, bounds-fit, objects-fit}
use Rattle.homeo_meaning.proofs.Starts.{starts-within}

pub record IsSound (w : s.Workload) : Type 0 where
  pub light : All (λ client. All (IsLightCall w) client.calls) w.clients
  pub starts : IsWithin (schema_of w) (initial w)
  pub slots : All SlotsFit (schema_of w).relations
  pub few : object_count (length (schema_of w).objects) (schema_of w).relations ≤ 1024

pub sound : (w : s.Workload) → IsAccepted w → IsSound w
unfolding definitions
sound w a =
    let p : NoFault Run w = parts Run w a.rules in
    let text : NoTextFault Run w = p.text in
    record {
      light = all-light w text.declared p.form.weights;
      starts = starts-within w (declared_parts w text.declared).objects (bounds-fit w text.declared);
      slots = slots-fit w text.limits;
      few = objects-fit w text.limits;
    }
