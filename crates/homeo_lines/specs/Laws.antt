-- What is written of packets and states is read back as them, and what nodes send can be.
use Rattle.std.specs.Prelude.{◌≡◌, ℕ, ◌<◌, ◌^◌, List, codes, Option, Some, None, IfSome, Contains, slice_get, IsUtf8}
use Rattle.serde_json.specs.Data.{Data}
use Rattle.serde_json.specs.Find.{get}
use Rattle.homeo_syntax.specs.Source as s
use Rattle.homeo_meaning.specs.declared.call.CallId.{CallId}
use Rattle.homeo_meaning.specs.Acceptance.{IsAccepted}
use Rattle.homeo_history.specs.Legal.{IsCallAt}
use Rattle.homeo_nodes.specs.Nodes.{Past, Packet, round_of, Node, Event, reached}
use Rattle.homeo_nodes.specs.Small.{small}
use Rattle.homeo_certificate.specs.Text.{IsJsonOf}
use Rattle.homeo_lines.specs.Lines as l
use Rattle.homeo_lines.specs.Read.{maybe_state, IsReadAs}
use Rattle.homeo_lines.specs.Written.{line_json}
use Rattle.homeo_lines.specs.SmallNumbers.{AreNamed, IsSmallCall, IsSmallFinding, IsSmall, IsSmallPast, IsSmallNode, IsSmallDesk, IsSmallFound}

-- ---- in accepted texts
abbrev pub AcceptedAreNamed : Type 0
AcceptedAreNamed = (w : s.Workload) → IsAccepted w → AreNamed w

-- each call of a client of a site is such a one
abbrev pub CallsAreSmall : Type 0
CallsAreSmall = (w : s.Workload) (site : ℕ) (call : CallId) → IsAccepted w → IsCallAt w site call → IsSmallCall w site call

-- what nodes send by any events, in a round below 2^53
abbrev pub SentAreSmall : Type 0
SentAreSmall =
    (w : s.Workload) (events : List Event) (p : Packet) → IsAccepted w → Contains (reached w events).packets p → round_of p < 2 ^ 53 →
    IsSmallFound p → IsSmall w p

-- and how a node has closed such a round
abbrev pub PastsAreSmall : Type 0
PastsAreSmall =
    (w : s.Workload) (events : List Event) (i : ℕ) (n : Node) (p : Past) → IsAccepted w → slice_get (reached w events).nodes i ≡ Some n →
    n.past ≡ Some p → p.breach.round < 2 ^ 53 → IsSmallFinding p.breach.broken → IsSmallPast w p

-- and what a node is in such a round, where all that was sent is of such ones
abbrev pub NodesAreSmall : Type 0
NodesAreSmall =
    (w : s.Workload) (events : List Event) (i : ℕ) (n : Node) → IsAccepted w → slice_get (reached w events).nodes i ≡ Some n →
    n.journal.site.round < 2 ^ 53 →
    ((p : Packet) → Contains (reached w events).packets p → (round_of p < 2 ^ 53) × IsSmallFound p) → IsSmallNode w (small n)

-- ---- what is read back
abbrev pub IsText : Option (List ℕ) → Type 0
IsText None = Unit {0}
IsText (Some name) = IsUtf8 name

-- a line means the packet that it was written of
abbrev pub PacketsReadBack : Type 0
PacketsReadBack =
    (w : s.Workload) → AreNamed w → (from to : Option (List ℕ)) → IsText from → IsText to → (p : Packet) → IsSmall w p →
    IsReadAs w (line_json w from to (l.Sent p)) (record { from = from; number = None; message = l.Came p })

abbrev pub PastsReadBack : Type 0
PastsReadBack =
    (w : s.Workload) → AreNamed w → (from to : Option (List ℕ)) → IsText from → IsText to → (p : Past) → IsSmallPast w p →
    IsReadAs w (line_json w from to (l.Left p)) (record { from = from; number = None; message = l.HasLeft p })

-- the line shows this state: whatever line has the member `state` of its body in its own body, means it there
pub record IsShown (w : s.Workload) (line : List ℕ) (x : l.State) : Type 0 where
  pub value : Data
  pub json : IsJsonOf line value
  pub body : Data
  pub in_line : get (codes "body") value ≡ Some body
  pub means : maybe_state w (get (codes "state") body) ≡ Some (Some x)

-- a snapshot shows the state that it was written of
abbrev pub StatesReadBack : Type 0
StatesReadBack =
    (w : s.Workload) → AreNamed w → (from to : Option (List ℕ)) → IsText from → IsText to → (number : Option ℕ) →
    IfSome number (λ n. n < 2 ^ 53) → (x : l.State) → IsSmallDesk w x → IsShown w (line_json w from to (l.SnapshotOk number x)) x
