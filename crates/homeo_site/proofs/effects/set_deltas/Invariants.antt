-- What was written so far has its new delta.
use Rattle.std.proofs.Common.{◌≡◌, ℕ, ◌<◌, length, take}
use Rattle.homeo_meaning.specs.Serial.{values_of}
use Rattle.homeo_plan.specs.Linear.{Forms}
use Rattle.homeo_site.specs.inner.Effects.{AreForms, delta_after, objects_of}
use Rattle.homeo_site.proofs.effects.set_deltas.Given as goal

abbrev pub invariant-loop-write : goal.invariant-loop-write
invariant-loop-write l = record {
  count : length l.deltas.items ≡ length l.before;
  deltas : (f : Forms) → AreForms f l.writes → (n : ℕ) → n < length l.before →
      values_of l.deltas.items n ≡ delta_after l.base l.before f (objects_of (take l.write-index l.writes)) n;
}
