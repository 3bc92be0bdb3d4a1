-- The laws of nodes, over every list of events.
use Rattle.std.specs.Prelude.{◌≡◌, ℕ, suc, ◌<◌, ◌≤◌, ◌%◌, Bool, true, false, List, ℤ, Some, Contains, slice_get, slice_index_or}
use Rattle.homeo_syntax.specs.Source as s
use Rattle.homeo_meaning.specs.Acceptance.{IsAccepted}
use Rattle.homeo_plan.specs.Planned.{sites_of}
use Rattle.homeo_history.specs.Legal.{IsCallAt, IsLegal}
use Rattle.homeo_site.specs.SiteState.{step_finding}
use Rattle.homeo_wire.specs.declared.breach.Breach.{Breach}
use Rattle.homeo_wire.specs.declared.events.Event.{Event}
use Rattle.homeo_wire.specs.Key.{definitions}
use Rattle.homeo_wire.specs.Nodes.{Packet, Want, Stop, State, round_of, Journal, Node, is_running, is_stopped, Step, Kept, Wanted, Held, Taken, Ignored, World, happens, reached}
use Rattle.homeo_wire.specs.Read.{journals, history_in, counts_in}

-- two nodes that are in one round have one base
abbrev pub HasOneBase : World → Type 0
unfolding definitions
HasOneBase x =
    (i k : ℕ) (j l : Journal) → slice_get (journals x) i ≡ Some j → slice_get (journals x) k ≡ Some l →
    j.site.round ≡ l.site.round → j.site.base ≡ l.site.base

abbrev pub OneBase : Type 0
unfolding definitions
OneBase = (w : s.Workload) (events : List Event) → IsAccepted w → HasOneBase (reached w events)

-- the history is legal, and of as many calls of each client as stand in it
abbrev pub OneHistory : Type 0
unfolding definitions
OneHistory =
    (w : s.Workload) (events : List Event) → IsAccepted w →
    IsLegal w (counts_in w (history_in (reached w events)).rounds) (history_in (reached w events))

-- ---- what holds after any events
-- the node that sends a packet: the arbiter chooses the call that closes its round
abbrev pub sender : s.Workload → Packet → ℕ
unfolding definitions
sender w (Want b) = b.site
sender w (Stop b) = b.round % sites_of w
sender w (State round site deltas) = site

-- a node that has asked that a call close its round no longer runs calls; the call is still its client's next, and breaks the
-- treaty as it was said
pub record IsWaiting (w : s.Workload) (b : Breach) (n : Node) : Type 0 where
  pub held : is_running n.mode ≡ false
  pub at_site : IsCallAt w b.site b.call
  pub next : b.call.seq ≡ suc (slice_index_or n.journal.made b.call.client 0)
  pub breaks : step_finding w n.journal.site b.call ≡ Some b.broken

pub record AreKept (w : s.Workload) (x : World) : Type 0 where
  -- a round has at most one call that is chosen, and all states of a site in it are the same
  pub one_stop : (a b : Breach) → Contains x.packets (Stop a) → Contains x.packets (Stop b) → a.round ≡ b.round → a ≡ b
  pub one_state : (r i : ℕ) (d e : List ℤ) → Contains x.packets (State r i d) → Contains x.packets (State r i e) → d ≡ e
  -- what is chosen was asked for
  pub asked : (b : Breach) → Contains x.packets (Stop b) → Contains x.packets (Want b)
  -- no node has sent a packet of a later round than its own
  pub not_ahead : (p : Packet) (n : Node) → Contains x.packets p → slice_get x.nodes (sender w p) ≡ Some n →
      round_of p ≤ n.journal.site.round
  pub waits : (b : Breach) (n : Node) → Contains x.packets (Want b) → slice_get x.nodes b.site ≡ Some n →
      n.journal.site.round ≡ b.round → IsWaiting w b n
  -- who has sent a state in its round is stopped, and its deltas are those of the state; who is stopped has sent it
  pub stopped : (r i : ℕ) (d : List ℤ) (n : Node) → Contains x.packets (State r i d) → slice_get x.nodes i ≡ Some n →
      n.journal.site.round ≡ r → is_stopped n.mode ≡ true
  pub deltas : (r i : ℕ) (d : List ℤ) (n : Node) → Contains x.packets (State r i d) → slice_get x.nodes i ≡ Some n →
      n.journal.site.round ≡ r → n.journal.site.deltas ≡ d
  pub said : (i : ℕ) (n : Node) → slice_get x.nodes i ≡ Some n → is_stopped n.mode ≡ true →
      Contains x.packets (State n.journal.site.round i n.journal.site.deltas)
  -- of a round that a node has left, the states of all sites were sent
  pub left : (i r k : ℕ) (n : Node) → slice_get x.nodes i ≡ Some n → r < n.journal.site.round → k < sites_of w →
      (d : List ℤ) × Contains x.packets (State r k d)
  -- the rounds of two nodes differ by 1 at most
  pub near : (i k : ℕ) (n m : Node) → slice_get x.nodes i ≡ Some n → slice_get x.nodes k ≡ Some m →
      n.journal.site.round ≤ suc m.journal.site.round

abbrev pub Facts : Type 0
unfolding definitions
Facts = (w : s.Workload) (events : List Event) → IsAccepted w → AreKept w (reached w events)

-- ---- an event that is held or ignored changes nothing
abbrev pub is_idle : Step → Bool
is_idle (Kept prints) = false
is_idle (Wanted broken) = false
is_idle Held = true
is_idle Taken = false
is_idle Ignored = true

abbrev pub Idle : Type 0
unfolding definitions
Idle =
    (w : s.Workload) (x : World) (e : Event) → is_idle (happens w x e).step ≡ true → (happens w x e).world ≡ x
