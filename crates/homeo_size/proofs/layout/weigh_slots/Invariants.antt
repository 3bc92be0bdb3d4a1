-- The slots so far, and those that are left, are weighed.
use Rattle.std.proofs.Common.{◌≡◌, ◌++◌, map}
use Rattle.homeo_meaning.specs.Bounds.{slot_bounds}
use Rattle.homeo_meaning.specs.Schema.{declared_range}
use Rattle.homeo_size.specs.inner.Laid.{capped_weight}
use Rattle.homeo_size.proofs.layout.weigh_slots.Given as goal

abbrev pub invariant-loop-left : goal.invariant-loop-left
invariant-loop-left l = l.weights.items ++ map capped_weight (slot_bounds l.left (map declared_range l.fields)) ≡ l.initial.weights.items ++ map capped_weight (slot_bounds l.count (map declared_range l.fields))

abbrev pub decreases-loop-left : goal.decreases-loop-left
decreases-loop-left l = l.left
