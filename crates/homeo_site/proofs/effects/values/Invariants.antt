use Rattle.std.proofs.Common.{◌≡◌, take}
use Rattle.homeo_site.specs.inner.Effects.{printed}
use Rattle.homeo_site.proofs.effects.values.Given as goal

abbrev pub invariant-loop-form : goal.invariant-loop-form
invariant-loop-form l = l.values.items ≡ printed l.deltas (take l.form-index l.forms)
