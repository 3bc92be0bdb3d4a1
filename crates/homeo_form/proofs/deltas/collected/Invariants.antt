-- The deltas so far are added.
use Rattle.std.proofs.Common.{◌≡◌, [], drop}
use Rattle.homeo_plan.specs.Linear.{AreInOrder, add_deltas}
use Rattle.homeo_form.proofs.deltas.collected.Given as goal

abbrev pub invariant-loop-delta : goal.invariant-loop-delta
invariant-loop-delta l = record {
  order : AreInOrder l.once.items;
  left : add_deltas (drop l.delta-index l.deltas) l.once.items ≡ add_deltas l.deltas [];
}
