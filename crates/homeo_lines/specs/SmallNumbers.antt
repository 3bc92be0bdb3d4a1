-- Which packets and states have names that are read back, and no number that JSON readers lose.
use Rattle.std.specs.Prelude.{◌≡◌, ℕ, suc, ◌<◌, ◌≤◌, ◌^◌, List, [], ◌∷◌, map, length, ℤ, pos, neg_ℤ, int_le, true, Option, Some, IfSome, slice_get, IsUtf8}
use Rattle.homeo_syntax.specs.Source as s
use Rattle.homeo_meaning.specs.declared.call.CallId.{CallId}
use Rattle.homeo_plan.specs.declared.treaty.Broken.{Broken}
use Rattle.homeo_plan.specs.Each.{Each}
use Rattle.homeo_plan.specs.Planned.{sites_of}
use Rattle.homeo_nodes.specs.declared.breach.Breach.{Breach}
use Rattle.homeo_nodes.specs.declared.breach.Mode.{Mode}
use Rattle.homeo_nodes.specs.declared.breach.Mode.TheVariants.{Running, Waiting, Stopped}
use Rattle.homeo_nodes.specs.Nodes.{Said, Past, Packet, Want, Stop, State}
use Rattle.homeo_nodes.specs.Small.{Small}
use Rattle.homeo_desk.specs.declared.output.Path.{Path}
use Rattle.homeo_desk.specs.declared.output.Path.TheVariants.{Local, Closing}
use Rattle.homeo_desk.specs.declared.output.Request.{Request}
use Rattle.homeo_print.specs.Names.{object_names}
use Rattle.homeo_certificate.specs.Shape.{IsWord}
use Rattle.homeo_lines.specs.Lines as l
use Rattle.homeo_lines.specs.Named.{client_name, client_called, call_at}

-- each client is the first of its name, which is a text
pub record AreNamed (w : s.Workload) : Type 0 where
  pub first : (n : ℕ) (client : s.Client) → slice_get w.clients n ≡ Some client → client_called w (client_name w n) ≡ Some n
  pub text : (n : ℕ) → IsUtf8 (client_name w n)

-- ---- which packets have no number that JSON readers lose
-- a call of a client at the site
pub record IsSmallCall (w : s.Workload) (site : ℕ) (call : CallId) : Type 0 where
  pub listed : call_at w site call.client call.seq ≡ Some call
  pub small : call.seq < 2 ^ 53

pub record IsSmallFinding (b : Broken) : Type 0 where
  pub clause : b.clause < 2 ^ 32
  pub sum : IsWord b.sum
  pub bound : IsWord b.bound

pub record IsSmallBreach (w : s.Workload) (b : Breach) : Type 0 where
  pub round : b.round < 2 ^ 53
  pub site : b.site < 2 ^ 32
  pub call : IsSmallCall w b.site b.call
  pub broken : IsSmallFinding b.broken

-- a number of the language's databases
pub record IsValue (n : ℤ) : Type 0 where
  pub low : int_le (neg_ℤ (pos 10000000000000)) n ≡ true
  pub high : int_le n (pos 10000000000000) ≡ true

-- a value of each object, and at most 64 calls
pub record IsSmallSaid (w : s.Workload) (site : ℕ) (x : Said) : Type 0 where
  pub deltas : length x.deltas ≡ length (object_names w)
  pub values : Each IsValue x.deltas
  pub few : length x.calls ≤ 64
  pub calls : Each (IsSmallCall w site) x.calls

pub record IsSmallState (w : s.Workload) (round site : ℕ) (x : Said) : Type 0 where
  pub small_round : round < 2 ^ 53
  pub small_site : site < 2 ^ 32
  pub there : site < sites_of w
  pub said : IsSmallSaid w site x

abbrev pub IsSmall : s.Workload → Packet → Type 0
IsSmall w (Want b) = IsSmallBreach w b
IsSmall w (Stop b) = IsSmallBreach w b
IsSmall w (State round site said) = IsSmallState w round site said

abbrev pub AllSmall : s.Workload → ℕ → List Said → Type 0
AllSmall w k [] = Unit {0}
AllSmall w k (x ∷ xs) = IsSmallSaid w k x × AllSmall w (suc k) xs

pub record IsSmallPast (w : s.Workload) (p : Past) : Type 0 where
  pub breach : IsSmallBreach w p.breach
  pub sites : length p.states ≡ sites_of w
  pub states : AllSmall w 0 p.states

-- ---- and which states
pub record IsSmallRequest (w : s.Workload) (site : ℕ) (r : Request) : Type 0 where
  pub caller : IsUtf8 r.caller
  pub number : r.number < 2 ^ 53
  pub call : IsSmallCall w site r.call

abbrev pub IsSmallPath : Path → Type 0
IsSmallPath (Local place) = place < 2 ^ 53
IsSmallPath (Closing broken) = IsSmallFinding broken

pub record IsSmallAnswer (w : s.Workload) (site : ℕ) (a : l.Answer) : Type 0 where
  pub number : a.number < 2 ^ 53
  pub call : IsSmallCall w site a.call
  pub prints : Each IsWord a.prints
  pub round : a.round < 2 ^ 53
  pub path : IsSmallPath a.path

-- a value of each object
pub record AreValues (w : s.Workload) (ns : List ℤ) : Type 0 where
  pub all : length ns ≡ length (object_names w)
  pub values : Each IsValue ns

abbrev pub IsSmallMode : s.Workload → Mode → Type 0
IsSmallMode w Running = Unit {0}
IsSmallMode w (Waiting b) = IsSmallBreach w b
IsSmallMode w (Stopped b) = IsSmallBreach w b

abbrev pub AllKept : s.Workload → ℕ → List (Option Said) → Type 0
AllKept w k [] = Unit {0}
AllKept w k (x ∷ xs) = IfSome x (IsSmallSaid w k) × AllKept w (suc k) xs

pub record IsSmallNode (w : s.Workload) (x : Small) : Type 0 where
  pub number : x.number < 2 ^ 32
  pub round : x.round < 2 ^ 53
  pub base : AreValues w x.base
  pub deltas : AreValues w x.deltas
  pub mode : IsSmallMode w x.mode
  pub decided : IfSome x.decided (IsSmallBreach w)
  pub sites : length x.states ≡ sites_of w
  pub states : AllKept w 0 x.states
  pub past : IfSome x.past (IsSmallPast w)

-- the calls that wait are those of its requests
pub record IsSmallDesk (w : s.Workload) (x : l.State) : Type 0 where
  pub node : IsSmallNode w x.node
  pub made : x.made < 2 ^ 53
  pub paired : map (λ r. r.call) x.queue ≡ x.node.queue
  pub queue : Each (IsSmallRequest w x.node.number) x.queue
  pub answered : Each (IsSmallAnswer w x.node.number) x.answered

-- what fails of a site's treaty, where a packet tells it
abbrev pub IsSmallFound : Packet → Type 0
IsSmallFound (Want b) = IsSmallFinding b.broken
IsSmallFound (Stop b) = IsSmallFinding b.broken
IsSmallFound (State round site said) = Unit {0}
