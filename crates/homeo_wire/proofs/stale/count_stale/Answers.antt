use Rattle.homeo_wire.specs.Key.{definitions}
use Rattle.std.proofs.Common.{◌≡◌, ℕ, ◌<◌, ◌≤◌, List, length, Some, ap, arith}
use Rattle.std.specs.Prelude.{slice_get}
use Rattle.std.proofs.lemmas.List.{length-map}
use Rattle.homeo_history.proofs.Lists.{get_map_back}
use Rattle.homeo_wire.specs.declared.events.Packet.{Packet}
use Rattle.homeo_wire.specs.declared.node.Node.{Node}
use Rattle.homeo_wire.specs.inner.Stale.{AreStale}
use Rattle.homeo_wire.specs.Nodes as n
use Rattle.homeo_wire.specs.WireView.{plain_packet, plain_node, world_of}
use Rattle.homeo_wire.proofs.stale.count_stale.Goals as goal

are_stale :
    (nodes : List Node) (packets : List Packet) (least count : ℕ) → ((i : ℕ) (x : Node) → slice_get nodes i ≡ Some x → least ≤ x.site.state.round) →
    count ≤ length packets → ((k : ℕ) (p : Packet) → k < count → slice_get packets k ≡ Some p → n.round_of (plain_packet p) < least) →
    AreStale (world_of nodes packets) count
unfolding definitions
are_stale nodes packets least count low sent before = record {
  sent = let many = length-map packets plain_packet in omega (arith, many, sent);
  left = λ k i p x lt at here. let packet = get_map_back plain_packet packets k p at in
      let node = get_map_back plain_node nodes i x here in
      let below = before k packet.0 lt packet.1.0 in
      let above = low i node.0 node.1.0 in
      let of : n.round_of (plain_packet packet.0) ≡ n.round_of p = ap n.round_of packet.1.1 in
      let in_it : node.0.site.state.round ≡ x.journal.site.round = ap (λ (y : n.Node). y.journal.site.round) node.1.1 in
      omega (arith, below, above, of, in_it);
}

pub returns : goal.returns
returns c =
    are_stale c.args.nodes.now c.args.packets.now c.least_round.result c.count_before.result c.least_round.ensures c.count_before.ensures.sent c.count_before.ensures.before
