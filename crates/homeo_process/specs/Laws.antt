-- What lines make of the nodes of all sites (this project's rule).
use Rattle.std.specs.Prelude.{◌≡◌, ℕ, List, ◌++◌, map, Some, IfSome, slice_get}
use Rattle.homeo_syntax.specs.Source as s
use Rattle.homeo_syntax.specs.SourceView.{plain_workload}
use Rattle.homeo_syntax.specs.declared.workload.Workload.{Workload}
use Rattle.homeo_meaning.specs.Acceptance.{IsAccepted}
use Rattle.homeo_history.specs.Answers as h
use Rattle.homeo_history.specs.History.{Round}
use Rattle.homeo_core.specs.Joined.{rounds_of}
use Rattle.homeo_nodes.specs.Laws.{IsStory, at_site, joint_of}
use Rattle.homeo_nodes.specs.Making.{Called}
use Rattle.homeo_nodes.specs.Nodes as n
use Rattle.homeo_nodes.specs.Nodes.{reached}
use Rattle.homeo_desk.specs.Outputs.{AreTold, Given}
use Rattle.homeo_desk.specs.Runs.{Desks, AreNodes}
use Rattle.homeo_process.specs.Cluster.{Place, Cluster, HaveRun}

-- the desks of the places
abbrev pub desks_of : Cluster → Desks
desks_of x = record { desks = map (λ p. p.told) x.places; packets = x.packets }

-- ---- lines are events
-- each node that has begun has the desk of its place; and nodes have done the same by these events as the desks
pub record AreEvents (w : s.Workload) (x : Cluster) (events : List n.Event) : Type 0 where
  pub desks : (i : ℕ) (p : Place) → slice_get x.places i ≡ Some p → IfSome p.node.desk (λ desk. desk ≡ p.told.desk)
  pub nodes : AreNodes w (desks_of x) events

abbrev pub LinesAreEvents : Type 0
LinesAreEvents = (work : Workload) (x : Cluster) → HaveRun work x → (events : List n.Event) × AreEvents (plain_workload work) x events

-- ---- lines tell one history
-- what was answered at a site are the first answers of its calls in these rounds, in order
pub record AreAnswered (rounds : List Round) (i : ℕ) (given : List Given) : Type 0 where
  pub told : List h.Answer
  pub rest : List h.Answer
  pub stand : at_site i (h.answers_of 0 rounds) ≡ told ++ rest
  pub are : AreTold given told

-- the events that lines were, and the calls that the core makes of them one after another: a serial history, in which all answers stand
pub record IsTold (w : s.Workload) (x : Cluster) : Type 0 where
  pub events : List n.Event
  pub are : AreEvents w x events
  pub calls : List Called
  pub story : IsStory w (reached w events) calls
  pub answered : (i : ℕ) (p : Place) → slice_get x.places i ≡ Some p →
      AreAnswered (rounds_of (joint_of w calls).book (joint_of w calls).sites) i p.told.given

abbrev pub LinesTellOneHistory : Type 0
LinesTellOneHistory = (work : Workload) (x : Cluster) → IsAccepted (plain_workload work) → HaveRun work x → IsTold (plain_workload work) x
