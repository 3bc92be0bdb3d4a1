-- The nodes so far.
use Rattle.std.proofs.Common.{◌≡◌, map}
use Rattle.std.specs.Prelude.{All}
use Rattle.std.specs.List.{range_with_len}
use Rattle.homeo_syntax.specs.SourceView.{plain_workload}
use Rattle.homeo_wire.specs.inner.Standing.{IsNode}
use Rattle.homeo_wire.specs.Nodes.{in_round, first_journal}
use Rattle.homeo_wire.specs.WireView.{plain_node}
use Rattle.homeo_wire.proofs.wire.first_nodes.Given as goal

abbrev pub invariant-loop-site : goal.invariant-loop-site
invariant-loop-site l = record {
  nodes : map plain_node l.nodes.items ≡ map (λ site. in_round (plain_workload l.c.value) (first_journal (plain_workload l.c.value) site)) (range_with_len 0 l.site);
  each : All (IsNode l.c.value) l.nodes.items;
}
