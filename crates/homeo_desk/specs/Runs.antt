-- Desks that move, one after another.
use Rattle.std.specs.Prelude.{◌≡◌, ℕ, List, [], ◌++◌, All, map, Some, slice_get, slice_set}
use Rattle.std.specs.List.{range_with_len}
use Rattle.homeo_syntax.specs.Source as s
use Rattle.homeo_syntax.specs.SourceView.{plain_workload}
use Rattle.homeo_syntax.specs.declared.workload.Workload.{Workload}
use Rattle.homeo_plan.specs.Planned.{sites_of}
use Rattle.homeo_history.specs.Legal.{IsCallAt}
use Rattle.homeo_nodes.specs.Nodes as n
use Rattle.homeo_nodes.specs.Nodes.{first_node, reached, at_start}
use Rattle.homeo_nodes.specs.Small.{small}
use Rattle.homeo_nodes.specs.Told.{told_in}
use Rattle.homeo_desk.specs.declared.output.Output.{Output}
use Rattle.homeo_desk.specs.declared.output.Request.{Request}
use Rattle.homeo_desk.specs.DeskView.{DeskValue, calls_of, no_answers}
use Rattle.homeo_desk.specs.Moves.{IsMove}
use Rattle.homeo_desk.specs.Outputs.{AreIn, AreTold, Given, packets_of, replies_of}
use Rattle.homeo_desk.specs.Places.{ArePlaced}

-- a desk, and all that it has answered
pub record Told : Type 0 where
  pub desk : DeskValue
  pub given : List Given

-- the desks in the order of their sites, and each packet that was ever let out
pub record Desks : Type 0 where
  pub desks : List Told
  pub packets : List n.Packet

abbrev pub first_desk : Workload → ℕ → DeskValue
first_desk work site = record {
  work = work;
  node = small (first_node (plain_workload work) site);
  made = 0;
  queue = [];
  answered = no_answers (plain_workload work);
}

abbrev pub first_told : Workload → ℕ → Told
first_told work site = record { desk = first_desk work site; given = [] }

abbrev pub first_desks : Workload → Desks
first_desks work = record { desks = map (first_told work) (range_with_len 0 (sites_of (plain_workload work))); packets = [] }

-- the desk of a site moves: it takes on requests for calls of its clients, and packets come to it that were let out
pub record Moves (x y : Desks) : Type 0 where
  pub site : ℕ
  pub old : Told
  pub new : DeskValue
  pub here : slice_get x.desks site ≡ Some old
  pub requests : List Request
  pub calls : All (IsCallAt (plain_workload old.desk.work) site) (calls_of requests)
  pub packets : List n.Packet
  pub came : AreIn packets x.packets
  pub before : List Output
  pub after : List Output
  pub move : IsMove requests packets old.desk new before after
  pub then : y ≡ record {
    desks = slice_set x.desks site (record { desk = new; given = old.given ++ move.given });
    packets = x.packets ++ packets_of move.gives.more;
  }

pub data IsRun (work : Workload) : Desks → Type 0 where
  begin : IsRun work (first_desks work)
  go_on : (x y : Desks) → IsRun work x → Moves x y → IsRun work y

-- nodes have done the same by these events: each desk's node is one of them without its journal, each packet that a desk has let out was
-- sent, and what it has answered is what the node has told, each call that was made alone with its place
pub record AreNodes (w : s.Workload) (x : Desks) (events : List n.Event) : Type 0 where
  pub nodes : (i : ℕ) (t : Told) → slice_get x.desks i ≡ Some t → (m : n.Node) × (slice_get (reached w events).nodes i ≡ Some m) × (small m ≡ t.desk.node)
  pub packets : AreIn x.packets (reached w events).packets
  pub told : (i : ℕ) (t : Told) → slice_get x.desks i ≡ Some t → AreTold t.given (told_in w i (at_start w) events)
  pub placed : (i : ℕ) (t : Told) → slice_get x.desks i ≡ Some t → ArePlaced 0 0 (replies_of t.given) t.desk.node.round t.desk.made

abbrev pub RunsAreEvents : Type 0
RunsAreEvents = (work : Workload) (x : Desks) → IsRun work x → (events : List n.Event) × AreNodes (plain_workload work) x events
