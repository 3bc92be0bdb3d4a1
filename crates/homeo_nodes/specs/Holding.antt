-- What each node keeps, so that it can be begun again from there.
use Rattle.std.specs.Prelude.{◌≡◌, ℕ, ◌≤◌, List, length, ◌+ℤ◌, All, IfSome, Some, slice_get}
use Rattle.homeo_syntax.specs.Source as s
use Rattle.homeo_meaning.specs.Acceptance.{IsAccepted}
use Rattle.homeo_meaning.specs.Bounds.{AllWithin}
use Rattle.homeo_meaning.specs.Schema.{schema_of}
use Rattle.homeo_meaning.specs.Serial.{values_of}
use Rattle.homeo_plan.specs.Planned.{sites_of}
use Rattle.homeo_history.specs.Legal.{IsCallAt}
use Rattle.homeo_site.specs.SiteState.{SiteHolds}
use Rattle.homeo_nodes.specs.declared.breach.Mode.{Mode}
use Rattle.homeo_nodes.specs.declared.breach.Mode.TheVariants.{Running, Waiting, Stopped}
use Rattle.homeo_nodes.specs.Key.{definitions}
use Rattle.homeo_nodes.specs.Nodes.{Node, most_waiting, Event, reached}

-- the call by which a node doesn't run is one of a client of its site
abbrev pub IsModeOf : s.Workload → Mode → Type 0
IsModeOf w Running = Unit {0}
IsModeOf w (Waiting b) = IsCallAt w b.site b.call
IsModeOf w (Stopped b) = IsCallAt w b.site b.call

-- a node's site holds, and its base plus its own deltas is within bounds; it has room for a state of each site, and in its past there is
-- one of each; and few calls wait, all of clients of its site
pub record NodeHolds (w : s.Workload) (n : Node) : Type 0 where
  pub site : SiteHolds w n.journal.site
  pub within : AllWithin (schema_of w) (λ o. values_of n.journal.site.base o +ℤ values_of n.journal.site.deltas o)
  pub mode : IsModeOf w n.mode
  pub states : length n.states ≡ sites_of w
  pub past : IfSome n.past (λ p. length p.states ≡ sites_of w)
  pub calls : All (IsCallAt w n.journal.site.number) n.queue
  pub few : length n.queue ≤ most_waiting

-- whatever has happened, also where a node is behind
abbrev pub NodesHold : Type 0
unfolding definitions
NodesHold =
    (w : s.Workload) (events : List Event) (i : ℕ) (n : Node) → IsAccepted w → slice_get (reached w events).nodes i ≡ Some n →
    NodeHolds w n
