-- The fields so far are weighed.
use Rattle.std.proofs.Common.{◌≡◌, ◌++◌, map, take}
use Rattle.homeo_size.specs.inner.Laid.{range_weight}
use Rattle.homeo_size.proofs.layout.weigh_slot.Given as goal

abbrev pub invariant-loop-field : goal.invariant-loop-field
invariant-loop-field l = l.weights.items ≡ l.initial.weights.items ++ map range_weight (take l.field-index l.fields)
