-- The deltas so far, and those of the objects that are left.
use Rattle.std.proofs.Common.{◌≡◌, ◌++◌, drop}
use Rattle.homeo_build.specs.inner.Frozen.{frozen_from}
use Rattle.homeo_build.proofs.frozen.FrozenObjects.deltas.Given as goal

abbrev pub invariant-loop-object : goal.invariant-loop-object
invariant-loop-object l =
    l.deltas.items ++ frozen_from l.sites l.object (drop l.object l.frozen-items) ≡ frozen_from l.sites 0 l.frozen-items
