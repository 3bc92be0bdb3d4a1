-- The deltas that were said so far are added.
use Rattle.std.proofs.Common.{◌≡◌, take}
use Rattle.homeo_nodes.specs.Nodes.{folded}
use Rattle.homeo_carry.specs.inner.Carrying.{deltas_said}
use Rattle.homeo_carry.proofs.sums.add_said.Given as goal

abbrev pub invariant-loop-said : goal.invariant-loop-said
invariant-loop-said l = l.values ≡ folded l.initial.values (deltas_said (take l.said-index l.states))
