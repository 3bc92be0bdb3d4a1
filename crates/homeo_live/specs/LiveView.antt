-- What values of the types stand for, wherever their parts lie in memory.
use Rattle.std.specs.Prelude.{◌≡◌, ℕ, ◌<◌, ◌^◌, ◌++◌, List, Option, Some, map, option_map, slice_get}
use Rattle.homeo_syntax.specs.Source as s
use Rattle.homeo_syntax.specs.declared.workload.Workload.{Workload}
use Rattle.homeo_history.specs.HistoryView.{plain_answer}
use Rattle.homeo_nodes.specs.Nodes as n
use Rattle.homeo_nodes.specs.Nodes.{reached}
use Rattle.homeo_nodes.specs.Small.{Small, small}
use Rattle.homeo_carry.specs.CarryView.{plain_said}
use Rattle.homeo_carry.specs.declared.said.Said.{Said}
use Rattle.homeo_live.specs.declared.packet.Packet.{Packet}
use Rattle.homeo_live.specs.declared.packet.Packet.TheVariants as packet
use Rattle.homeo_live.specs.declared.packet.Step.{Step}
use Rattle.homeo_live.specs.declared.packet.Step.TheVariants as step
use Rattle.homeo_live.specs.declared.state.Past.{Past}
use Rattle.homeo_live.specs.declared.state.NodeState.{NodeState}
use Rattle.homeo_live.specs.Key.{definitions}

abbrev pub plain_packet : Packet → n.Packet
unfolding definitions
plain_packet (packet.Want b) = n.Want b
plain_packet (packet.Stop b) = n.Stop b
plain_packet (packet.State round site said) = n.State round site (plain_said said)

abbrev pub plain_step : Step → n.Step
unfolding definitions
plain_step step.Queued = n.Queued
plain_step (step.Kept call prints) = n.Kept call prints.items
plain_step (step.Wanted broken) = n.Wanted broken
plain_step step.Held = n.Held
plain_step step.Taken = n.Taken
plain_step step.Ignored = n.Ignored
plain_step (step.Closed answers) = n.Closed (map plain_answer answers.items)

abbrev pub plain_state : Option Said → Option n.Said
plain_state state = option_map plain_said state

abbrev pub plain_past : Past → n.Past
plain_past p = record { breach = p.breach; states = map plain_said p.states.items }

-- the state of a node as plain data
abbrev pub plain_node : NodeState → Small
plain_node s = record {
  number = s.site;
  round = s.round;
  base = s.base.items;
  deltas = s.deltas.items;
  mode = s.mode;
  decided = s.decided;
  states = map plain_state s.states.items;
  past = option_map plain_past s.past;
  queue = s.queue.items;
}

-- what contracts see of a node: its workload and its state
pub record LiveValue : Type 0 where
  pub work : Workload
  pub node : Small

-- events have led a node of the workload here
pub record IsReached (w : s.Workload) (x : Small) : Type 0 where
  pub events : List n.Event
  pub site : ℕ
  pub node : n.Node
  pub there : slice_get (reached w events).nodes site ≡ Some node
  pub is : x ≡ small node

-- the node, the packets after those before, and what the input came to are those of the reaction
pub record IsReaction (r : n.Reaction) (new : Small) (before after : List Packet) (step : Step) : Type 0 where
  pub node : new ≡ small r.node
  pub sends : map plain_packet after ≡ map plain_packet before ++ r.sends
  pub came_to : plain_step step ≡ r.step

-- there are enough numbers for the rounds that the end of its round may lead through
abbrev pub HasNext : Small → Type 0
HasNext x = x.round < 2 ^ 62
