-- Nodes and packets as they lie in memory.
use Rattle.std.specs.Prelude.{◌≡◌, ℕ, ℤ, List, length, map, take, Some, All, FitsSigned, slice_get}
use Rattle.std.specs.Int.{w64}
use Rattle.homeo_syntax.specs.SourceView.{plain_workload}
use Rattle.homeo_syntax.specs.declared.workload.Workload.{Workload}
use Rattle.homeo_meaning.specs.Acceptance.{IsAccepted}
use Rattle.homeo_core.specs.Joined.{gathered}
use Rattle.homeo_wire.specs.declared.events.Event.{Event}
use Rattle.homeo_wire.specs.declared.events.Packet.{Packet}
use Rattle.homeo_wire.specs.declared.node.Node.{Node}
use Rattle.homeo_wire.specs.Key.{definitions}
use Rattle.homeo_wire.specs.Nodes as n
use Rattle.homeo_wire.specs.Read.{last_round, sites_in}
use Rattle.homeo_wire.specs.WireView.{plain_journal, world_of}

-- the node is one of this workload, and its base is its site's
pub record IsNode (work : Workload) (x : Node) : Type 0 where
  pub work_is : x.site.work ≡ work
  pub base_is : x.base.items ≡ x.site.state.base

-- nodes and packets that some events have led to
pub record IsWire (work : Workload) (nodes : List Node) (packets : List Packet) : Type 0 where
  pub accepted : IsAccepted (plain_workload work)
  pub each : All (IsNode work) nodes
  pub events : List Event
  pub reached : world_of nodes packets ≡ n.reached (plain_workload work) events

-- ---- what the history is read by
-- each sum on the way to the last database is a number of 64 bits
abbrev pub LastFits : List ℤ → ℕ → List n.Journal → Type 0
unfolding definitions
LastFits base round js = (m : ℕ) → All (FitsSigned w64) (gathered base (sites_in round (take m js)))

-- a node has left as many rounds as its number says, and its base is its site's
pub record IsOwn (x : Node) : Type 0 where
  pub rounds : length x.left.items ≡ x.site.state.round
  pub base_is : x.base.items ≡ x.site.state.base

pub record CanRead (nodes : List Node) : Type 0 where
  pub own : (i : ℕ) (x : Node) → slice_get nodes i ≡ Some x → IsOwn x
  pub fits : (i : ℕ) (x : Node) → slice_get nodes i ≡ Some x → x.site.state.round ≡ last_round (map plain_journal nodes) →
      LastFits x.site.state.base x.site.state.round (map plain_journal nodes)
