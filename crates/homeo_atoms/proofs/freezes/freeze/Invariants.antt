-- The loop of `freeze`.
use Rattle.std.proofs.Common.{◌≡◌, take}
use Rattle.homeo_plan.specs.Linear.{add_deltas}
use Rattle.homeo_atoms.specs.inner.Frozen.{deltas_in}
use Rattle.homeo_atoms.proofs.freezes.freeze.Given as goal

abbrev pub invariant-loop-delta : goal.invariant-loop-delta
invariant-loop-delta l = deltas_in l.frozen ≡ add_deltas (take l.delta-index l.deltas) (deltas_in l.fn.frozen)
