-- The deltas of the nodes so far are added.
use Rattle.std.proofs.Common.{◌≡◌, map, take}
use Rattle.homeo_core.specs.Joined.{gathered}
use Rattle.homeo_wire.specs.Read.{sites_in}
use Rattle.homeo_wire.specs.WireView.{plain_journal}
use Rattle.homeo_wire.proofs.history.add_nodes.Given as goal

abbrev pub invariant-loop-node : goal.invariant-loop-node
invariant-loop-node l = l.values ≡ gathered l.initial.values (sites_in l.round (map plain_journal (take l.node-index l.nodes)))
