-- What contracts see of the end of a round at one node.
use Rattle.std.specs.Prelude.{◌≡◌, List, [], map}
use Rattle.homeo_syntax.specs.SourceView.{plain_workload}
use Rattle.homeo_syntax.specs.declared.workload.Workload.{Workload}
use Rattle.homeo_meaning.specs.Bounds as m
use Rattle.homeo_history.specs.HistoryView.{plain_answer}
use Rattle.homeo_site.specs.SiteState.{SiteState}
use Rattle.homeo_nodes.specs.declared.breach.Breach.{Breach}
use Rattle.homeo_nodes.specs.Nodes as n
use Rattle.homeo_nodes.specs.Nodes.{Journal, closed, answers_then}
use Rattle.homeo_carry.specs.declared.bounds.Bounds.{Bounds}
use Rattle.homeo_carry.specs.declared.closing.Closed.{Closed}
use Rattle.homeo_carry.specs.declared.said.Said.{Said}

abbrev pub plain_bounds : Bounds → m.Bounds
plain_bounds b = record { lo = b.lo; hi = b.hi }

abbrev pub plain_said : Said → n.Said
plain_said s = record { deltas = s.deltas.items; calls = s.calls.items }

-- the site of a node that keeps nothing of what it ran
abbrev pub journal_of : SiteState → Journal
journal_of x = record { site = x; left = []; asked = [] }

abbrev pub without_segment : SiteState → SiteState
without_segment x = record { number = x.number; round = x.round; base = x.base; deltas = x.deltas; segment = [] }

-- the site goes on where a node of its state does that closes its round by this call and what all sites said, and the answers are
-- that node's
pub record IsClosed (work : Workload) (u : Breach) (states : List n.Said) (x : SiteState) (y : Closed) : Type 0 where
  pub work_is : y.site.work ≡ work
  pub state : y.site.state ≡ without_segment (closed (plain_workload work) u states (journal_of x)).site
  pub answers : map plain_answer y.answers.items ≡ answers_then (plain_workload work) u states (journal_of x)
