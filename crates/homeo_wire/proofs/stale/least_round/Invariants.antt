-- None of the nodes so far is in an earlier round.
use Rattle.std.proofs.Common.{◌≡◌, ℕ, ◌<◌, ◌≤◌, Some}
use Rattle.std.specs.Prelude.{slice_get}
use Rattle.homeo_wire.specs.declared.node.Node.{Node}
use Rattle.homeo_wire.proofs.stale.least_round.Given as goal

abbrev pub invariant-loop-node : goal.invariant-loop-node
invariant-loop-node l = (i : ℕ) (x : Node) → i < l.node-index → slice_get l.nodes i ≡ Some x → l.least ≤ x.site.state.round
