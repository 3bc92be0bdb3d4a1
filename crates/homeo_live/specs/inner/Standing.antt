-- A node as it lies in memory.
use Rattle.std.specs.Prelude.{◌≡◌, ◌<◌, ◌≤◌, ◌+ℤ◌, ℕ, ℤ, All, IfSome, List, [], length, map, Option, option_map, Some}
use Rattle.homeo_syntax.specs.Source as s
use Rattle.homeo_syntax.specs.SourceView.{plain_workload}
use Rattle.homeo_syntax.specs.declared.workload.Workload.{Workload}
use Rattle.homeo_meaning.specs.Acceptance.{IsAccepted}
use Rattle.homeo_meaning.specs.Bounds.{AllWithin, IsWithin, all_bounds}
use Rattle.homeo_meaning.specs.declared.call.CallId.{CallId}
use Rattle.homeo_meaning.specs.Schema.{schema_of}
use Rattle.homeo_meaning.specs.Serial.{values_of}
use Rattle.homeo_plan.specs.Planned.{sites_of}
use Rattle.homeo_history.specs.Legal.{IsCallAt}
use Rattle.homeo_site.specs.BareView.{BareValue}
use Rattle.homeo_site.specs.SiteState.{SiteState}
use Rattle.homeo_nodes.specs.declared.breach.Breach.{Breach}
use Rattle.homeo_nodes.specs.declared.breach.Mode.{Mode}
use Rattle.homeo_nodes.specs.declared.breach.Mode.TheVariants.{Stopped}
use Rattle.homeo_nodes.specs.Coming.{CanClose}
pub use Rattle.homeo_nodes.specs.Holding.{IsModeOf}
use Rattle.homeo_nodes.specs.Nodes as n
use Rattle.homeo_nodes.specs.Nodes.{Node, all_of, most_waiting}
use Rattle.homeo_nodes.specs.Small.{Small, grown}
use Rattle.homeo_carry.specs.CarryView.{plain_bounds}
use Rattle.homeo_carry.specs.declared.bounds.Bounds.{Bounds}
use Rattle.homeo_carry.specs.declared.said.Said.{Said}
use Rattle.homeo_live.specs.declared.state.Past.{Past}
use Rattle.homeo_live.specs.declared.state.NodeState.{NodeState}
use Rattle.homeo_live.specs.LiveView.{plain_state, plain_past}

-- a site, and what of packets its node keeps
abbrev pub node_of : SiteState → Mode → Option Breach → List (Option Said) → Option Past → List CallId → Small
node_of x mode decided states past queue = record {
  number = x.number;
  round = x.round;
  base = x.base;
  deltas = x.deltas;
  mode = mode;
  decided = decided;
  states = map plain_state states;
  past = option_map plain_past past;
  queue = queue;
}

-- each call is one of a client of the site
abbrev pub AreCallsOf : s.Workload → ℕ → List CallId → Type 0
AreCallsOf w site queue = All (IsCallAt w site) queue

pub record IsLive (work : Workload) (bounds : List Bounds) (site : BareValue) (mode : Mode) (states : List (Option Said)) (past : Option Past) (queue : List CallId) : Type 0 where
  pub work_is : site.work ≡ work
  pub accepted : IsAccepted (plain_workload work)
  pub empty : site.state.segment ≡ []
  pub bounds_are : map plain_bounds bounds ≡ all_bounds (schema_of (plain_workload work))
  pub count : length states ≡ sites_of (plain_workload work)
  pub mode_of : IsModeOf (plain_workload work) mode
  pub past_long : IfSome past (λ p. length p.states.items ≡ sites_of (plain_workload work))
  pub waiting : AreCallsOf (plain_workload work) site.state.number queue

-- ---- before a round is closed
abbrev pub placed : Small → Mode → List (Option n.Said) → Node
placed x mode states = record (grown x) { mode = mode; states = states }

-- where the node is stopped and keeps what each site has said, it can close the round
abbrev pub CanSettle : s.Workload → Small → Mode → List (Option n.Said) → Type 0
CanSettle w x mode states =
    (u : Breach) (all : List n.Said) → mode ≡ Stopped u → all_of states ≡ Some all → CanClose w (grown x).journal u all

-- ---- a state from outside
pub record HasShape (sites : ℕ) (x : NodeState) : Type 0 where
  pub site : x.site < sites
  pub count : length x.states.items ≡ sites
  pub past_long : IfSome x.past (λ p. length p.states.items ≡ sites)

pub record IsQueueOf (w : s.Workload) (site : ℕ) (queue : List CallId) : Type 0 where
  pub few : length queue ≤ most_waiting
  pub calls : AreCallsOf w site queue

-- a base is within bounds, and has a delta for each value, with which it still is
pub record AreFitting (w : s.Workload) (base deltas : List ℤ) : Type 0 where
  pub within : IsWithin (schema_of w) base
  pub count : length deltas ≡ length base
  pub all : AllWithin (schema_of w) (λ n. values_of base n +ℤ values_of deltas n)

pub record IsFit (w : s.Workload) (x : NodeState) : Type 0 where
  pub shape : HasShape (sites_of w) x
  pub mode_of : IsModeOf w x.mode
  pub queue_of : IsQueueOf w x.site x.queue.items
  pub values : AreFitting w x.base.items x.deltas.items
