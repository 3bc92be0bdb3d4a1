-- The nodes of the wire, as nodes that are asked any calls.
use Rattle.std.specs.Prelude.{◌≡◌, ℕ, List, map, length, ℤ, Option, option_map, Some, is_some, slice_get}
use Rattle.homeo_syntax.specs.Source as s
use Rattle.homeo_meaning.specs.Acceptance.{IsAccepted}
use Rattle.homeo_nodes.specs.declared.breach.Breach.{Breach}
use Rattle.homeo_nodes.specs.declared.breach.Mode.{Mode}
use Rattle.homeo_nodes.specs.declared.breach.Mode.TheVariants as mode
use Rattle.homeo_nodes.specs.Nodes as n
use Rattle.homeo_nodes.specs.Ordered.{AskedInOrder, IsLegalStory}
use Rattle.homeo_wire.specs.declared.breach.Breach as wire_breach
use Rattle.homeo_wire.specs.declared.breach.Mode as wire_mode
use Rattle.homeo_wire.specs.declared.breach.Mode.TheVariants as variant
use Rattle.homeo_wire.specs.declared.events.Event.{Event}
use Rattle.homeo_wire.specs.Nodes as d

-- ---- what the wire has of packets and nodes
abbrev pub wired_breach : Breach → wire_breach.Breach
wired_breach b = record { round = b.round; site = b.site; call = b.call; broken = b.broken }

-- the calls that a state carries left out
abbrev pub wired_packet : n.Packet → d.Packet
wired_packet (n.Want b) = d.Want (wired_breach b)
wired_packet (n.Stop b) = d.Stop (wired_breach b)
wired_packet (n.State round site said) = d.State round site said.deltas

-- the call that a node waits for left out
abbrev pub wired_mode : Mode → wire_mode.Mode
wired_mode mode.Running = variant.Running
wired_mode (mode.Waiting b) = variant.Waiting
wired_mode (mode.Stopped b) = variant.Stopped (wired_breach b)

abbrev pub wired_state : Option n.Said → Option (List ℤ)
wired_state state = option_map (λ said. said.deltas) state

-- a round that a node of the wire has left, as one that was closed
abbrev pub closed_left : d.Left → n.Left
closed_left l = record { base = l.base; segment = l.segment; closing = Some l.closing }

-- with the rounds that it has left, and of each client the number of the last call that was made
abbrev pub wired : n.Node → List d.Left → List ℕ → d.Node
wired m left made = record {
  journal = record { site = m.journal.site; left = left; made = made };
  mode = wired_mode m.mode;
  decided = is_some m.decided;
  states = map wired_state m.states;
}

-- a node of the wire that is this one: the same site, packets and rounds
pub record IsWired (x : d.Node) (m : n.Node) : Type 0 where
  pub left : List d.Left
  pub made : List ℕ
  pub node : x ≡ wired m left made
  pub left_is : map closed_left left ≡ m.journal.left

-- ---- all nodes
-- so all nodes, and the packets
pub record AreWired (x : d.World) (y : n.World) : Type 0 where
  pub count : length x.nodes ≡ length y.nodes
  pub nodes : (i : ℕ) (v : d.Node) (m : n.Node) → slice_get x.nodes i ≡ Some v → slice_get y.nodes i ≡ Some m → IsWired v m
  pub packets : x.packets ≡ map wired_packet y.packets

-- these events lead there, with each client's calls taken on in the order of its list; so what the nodes have done is a legal history
pub record LeadsTo (w : s.Workload) (x : d.World) (asks : List n.Event) : Type 0 where
  pub are : AreWired x (n.reached w asks)
  pub ordered : AskedInOrder w (n.reached w asks)
  pub legal : IsLegalStory w (n.reached w asks)

-- whatever happens on the wire, there are events of nodes that are asked calls which lead to the same
abbrev pub IsCase : Type 0
IsCase =
    (w : s.Workload) (events : List Event) → IsAccepted w →
    (asks : List n.Event) × LeadsTo w (d.reached w events) asks
