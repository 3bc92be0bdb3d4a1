-- What values of the types stand for, wherever their parts lie in memory.
use Rattle.std.specs.Prelude.{◌<◌, ℤ, List, Option, length, map, option_map}
use Rattle.homeo_syntax.specs.Source as s
use Rattle.homeo_syntax.specs.Listed.{Listed}
use Rattle.homeo_syntax.specs.declared.workload.Workload.{Workload}
use Rattle.homeo_history.specs.HistoryView.{plain_segment, plain_closing}
use Rattle.homeo_plan.specs.Planned.{sites_of}
use Rattle.homeo_wire.specs.declared.events.Event.{Event}
use Rattle.homeo_wire.specs.declared.events.Event.TheVariants.{Call, Deliver}
use Rattle.homeo_wire.specs.declared.events.Packet.{Packet}
use Rattle.homeo_wire.specs.declared.events.Packet.TheVariants as packet
use Rattle.homeo_wire.specs.declared.events.Step.{Step}
use Rattle.homeo_wire.specs.declared.events.Step.TheVariants as step
use Rattle.homeo_wire.specs.declared.node.Left.{Left}
use Rattle.homeo_wire.specs.declared.node.Node.{Node}
use Rattle.homeo_wire.specs.Key.{definitions}
use Rattle.homeo_wire.specs.Nodes as n

abbrev pub plain_packet : Packet → n.Packet
unfolding definitions
plain_packet (packet.Want round site call broken) = n.Want (record { round = round; site = site; call = call; broken = broken })
plain_packet (packet.Stop round site call broken) = n.Stop (record { round = round; site = site; call = call; broken = broken })
plain_packet (packet.State round site deltas) = n.State round site deltas.items

abbrev pub plain_step : Step → n.Step
unfolding definitions
plain_step (step.Kept prints) = n.Kept prints.items
plain_step (step.Wanted broken) = n.Wanted broken
plain_step step.Held = n.Held
plain_step step.Taken = n.Taken
plain_step step.Ignored = n.Ignored

abbrev pub plain_left : Left → n.Left
unfolding definitions
plain_left l = record { base = l.base.items; segment = plain_segment l.segment; closing = plain_closing l.closing }

abbrev pub plain_state : Option (Listed ℤ) → Option (List ℤ)
plain_state state = option_map (λ d. d.items) state

abbrev pub plain_journal : Node → n.Journal
unfolding definitions
plain_journal x = record { site = x.site.state; left = map plain_left x.left.items; made = x.made.items }

abbrev pub plain_node : Node → n.Node
unfolding definitions
plain_node x = record {
  journal = plain_journal x;
  mode = x.mode;
  decided = x.decided;
  states = map plain_state x.states.items;
}

abbrev pub world_of : List Node → List Packet → n.World
unfolding definitions
world_of nodes packets = record { nodes = map plain_node nodes; packets = map plain_packet packets }

-- the workload, and the nodes with all packets
pub record WireValue : Type 0 where
  pub work : Workload
  pub world : n.World

-- the client that an event is of, or the site and the packet, is there
abbrev pub CanHappen : s.Workload → n.World → Event → Type 0
unfolding definitions
CanHappen w x (Call client) = client < length w.clients
CanHappen w x (Deliver site packet) = (site < sites_of w) × (packet < length x.packets)
