-- What a node needs to know before it closes its round.
use Rattle.std.specs.Prelude.{◌≡◌, ◌==◌, ◌&&◌, ℕ, ◌<◌, nat_lt, cond, List, length, take, ℤ, All, FitsSigned, Option, false, Some, slice_index_or}
use Rattle.std.specs.Int.{w64}
use Rattle.homeo_syntax.specs.Source as s
use Rattle.homeo_meaning.specs.Bounds.{IsWithin}
use Rattle.homeo_meaning.specs.Calls.{CallExists}
use Rattle.homeo_meaning.specs.Schema.{schema_of}
use Rattle.homeo_plan.specs.Planned.{sites_of}
use Rattle.homeo_wire.specs.declared.breach.Breach.{Breach}
use Rattle.homeo_wire.specs.declared.breach.Mode.{Mode}
use Rattle.homeo_wire.specs.declared.breach.Mode.TheVariants.{Running, Waiting, Stopped}
use Rattle.homeo_wire.specs.Key.{definitions}
use Rattle.homeo_wire.specs.Nodes.{Packet, Want, Stop, State, Journal, Node, is_stopped, all_of, folded, stopped, keeping}

-- the call exists, and its client is one of those that are counted; the base with the first states is within bounds; the node has
-- left as many rounds as its own number says
pub record CanClose (w : s.Workload) (j : Journal) (b : Breach) (states : List (List ℤ)) : Type 0 where
  pub exists : CallExists w b.call
  pub client : b.call.client < length j.made
  pub sums : (n : ℕ) → IsWithin (schema_of w) (folded j.site.base (take n states))

-- where the states of all sites are there
abbrev pub CanEnd : s.Workload → Journal → Breach → List (Option (List ℤ)) → Type 0
unfolding definitions
CanEnd w j b kept = (states : List (List ℤ)) → all_of kept ≡ Some states → CanClose w j b states

-- where the node is stopped
abbrev pub CanSettle : s.Workload → Journal → Mode → List (Option (List ℤ)) → Type 0
unfolding definitions
CanSettle w j mode kept = (b : Breach) → mode ≡ Stopped b → CanEnd w j b kept

-- the node in this mode, with these states
abbrev pub placed : Node → Mode → List (Option (List ℤ)) → Node
unfolding definitions
placed n mode states = record { journal = n.journal; mode = mode; decided = n.decided; states = states }

-- a state is that of one of so many sites
abbrev pub IsFrom : ℕ → Packet → Type 0
unfolding definitions
IsFrom sites (Want b) = Unit {0}
IsFrom sites (Stop b) = Unit {0}
IsFrom sites (State round site deltas) = site < sites

-- where the node takes the packet and then keeps the states of all sites
abbrev pub CanTake : s.Workload → Node → Packet → Type 0
unfolding definitions
CanTake w n (Want b) = Unit {0}
CanTake w n (Stop b) =
    (states : List (List ℤ)) → is_stopped n.mode ≡ false → all_of (stopped n b).states ≡ Some states → CanClose w n.journal b states
CanTake w n (State round site deltas) =
    (b : Breach) (states : List (List ℤ)) → n.mode ≡ Stopped b → all_of (keeping n site deltas).states ≡ Some states →
    CanClose w n.journal b states

pub record IsReady (w : s.Workload) (i : ℕ) (n : Node) : Type 0 where
  pub number : n.journal.site.number ≡ i
  pub below : i < sites_of w
  pub states : length n.states ≡ sites_of w
  pub made : length n.journal.made ≡ length w.clients
  pub rounds : length n.journal.left ≡ n.journal.site.round

-- ---- states as the code folds them
-- each sum on the way is a number of 64 bits, where all states are there
abbrev pub FoldsFit : List ℤ → List (Option (List ℤ)) → Type 0
unfolding definitions
FoldsFit base states =
    (all : List (List ℤ)) (n : ℕ) → all_of states ≡ Some all → All (FitsSigned w64) (folded base (take n all))

-- where all states are there, the values are the base with them
abbrev pub IsFold : List ℤ → List (Option (List ℤ)) → List ℤ → Type 0
unfolding definitions
IsFold base states values = (all : List (List ℤ)) → all_of states ≡ Some all → values ≡ folded base all

-- a node's number of the last call of a client that stands in a history up to this round: where the node is behind, the call that
-- closes its round counts too
abbrev pub counted_by : ℕ → ℕ → Node → Mode → ℕ
unfolding definitions
counted_by last client n (Stopped b) =
    cond (nat_lt n.journal.site.round last && (b.call.client == client)) b.call.seq (slice_index_or n.journal.made client 0)
counted_by last client n Running = slice_index_or n.journal.made client 0
counted_by last client n Waiting = slice_index_or n.journal.made client 0
