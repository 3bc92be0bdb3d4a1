-- Packets that no node takes any more.
use Rattle.std.specs.Prelude.{◌≡◌, ℕ, ◌<◌, ◌≤◌, Some, length, slice_get}
use Rattle.homeo_wire.specs.Nodes.{Packet, round_of, Node, World}

-- so many packets were sent at least, and the first so many are of rounds that all nodes have left
pub record AreStale (x : World) (count : ℕ) : Type 0 where
  pub sent : count ≤ length x.packets
  pub left : (k i : ℕ) (p : Packet) (n : Node) → k < count → slice_get x.packets k ≡ Some p → slice_get x.nodes i ≡ Some n →
      round_of p < n.journal.site.round
