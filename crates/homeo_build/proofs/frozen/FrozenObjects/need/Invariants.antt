-- The objects so far.
use Rattle.std.proofs.Common.{◌≡◌, ℕ, ◌||◌, ◌&&◌, ◌==◌, not, take}
use Rattle.homeo_build.specs.inner.Frozen.{is_frozen_in, names_object}
use Rattle.homeo_build.proofs.frozen.FrozenObjects.need.Given as goal

abbrev pub invariant-loop-delta : goal.invariant-loop-delta
invariant-loop-delta l =
    (x j : ℕ) → is_frozen_in l.self x j ≡ (is_frozen_in l.fn.self x j || (not (j == l.site) && names_object x (take l.delta-index l.deltas)))
