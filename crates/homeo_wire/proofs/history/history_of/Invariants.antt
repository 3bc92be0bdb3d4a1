-- None of the nodes so far is in the last round.
use Rattle.std.proofs.Common.{◌≡◌, map, drop}
use Rattle.std.specs.Prelude.{find, ◌==◌}
use Rattle.homeo_wire.specs.Nodes.{Journal}
use Rattle.homeo_wire.specs.Read.{last_round}
use Rattle.homeo_wire.specs.WireView.{plain_journal}
use Rattle.homeo_wire.proofs.history.history_of.Given as goal

abbrev pub invariant-loop-node : goal.invariant-loop-node
invariant-loop-node l =
    find (λ (j : Journal). j.site.round == last_round (map plain_journal l.nodes)) (map plain_journal l.nodes)
    ≡ find (λ (j : Journal). j.site.round == last_round (map plain_journal l.nodes)) (map plain_journal (drop l.node-index l.nodes))
