-- A desk as it lies in memory, and what its parts do.
use Rattle.std.specs.Prelude.{◌≡◌, ◌≤◌, ℕ, All, List, [], ◌∷◌, ◌++◌, map, length, Option, Some, slice_get}
use Rattle.homeo_syntax.specs.Source as s
use Rattle.homeo_syntax.specs.SourceView.{plain_workload}
use Rattle.homeo_syntax.specs.declared.workload.Workload.{Workload}
use Rattle.homeo_meaning.specs.declared.call.CallId.{CallId}
use Rattle.homeo_history.specs.Answers as h
use Rattle.homeo_history.specs.Legal.{IsCallAt}
use Rattle.homeo_nodes.specs.Nodes as n
use Rattle.homeo_nodes.specs.Small.{Small}
use Rattle.homeo_desk.specs.declared.output.Output.{Output}
use Rattle.homeo_desk.specs.declared.output.Request.{Request}
use Rattle.homeo_desk.specs.declared.places.Places.{Places}
use Rattle.homeo_desk.specs.DeskView.{DeskValue, Reply, IsPaired, IsFirst, KeepsFirst, last_answers}
use Rattle.homeo_desk.specs.Outputs.{Given, Gives, AreTold, request_of, replies_of}
use Rattle.homeo_desk.specs.Places.{made_in, one_more, IsPlaced}
use Rattle.homeo_desk.specs.declared.output.Path.{Path}
use Rattle.homeo_desk.specs.declared.output.Path.TheVariants.{Local, Closing}

-- a packet by which a call of this site closes the round tells of the first that waits there
abbrev pub FitsQueue : n.Packet → ℕ → List CallId → Type 0
FitsQueue (n.Want b) site queue = IsFirst b site queue
FitsQueue (n.Stop b) site queue = IsFirst b site queue
FitsQueue (n.State round of said) site queue = Unit {0}

-- there is a place for each client, and in it is an answer to a call of it
pub record AreLast (w : s.Workload) (site : ℕ) (answered : List (Option Reply)) : Type 0 where
  pub count : length answered ≡ length w.clients
  pub each : (client : ℕ) (r : Reply) → slice_get answered client ≡ Some (Some r) → (r.call.client ≡ client) × IsCallAt w site r.call

-- ---- a desk
abbrev pub value_of : Workload → Small → Places → List Request → List (Option Reply) → DeskValue
value_of work node places queue answered =
    record { work = work; node = node; made = made_in places.round places.made node.round; queue = queue; answered = answered }

pub record IsKept (places : Places) (d : DeskValue) : Type 0 where
  pub round : places.round ≤ d.node.round
  pub paired : IsPaired d
  pub first : KeepsFirst d.node
  pub last : AreLast (plain_workload d.work) d.node.number d.answered

-- ---- places
-- what is kept after a call that was made in this round and in this way
abbrev pub put : Path → ℕ → Places → Places
put (Local place) round p = record { round = round; made = one_more (made_in p.round p.made round) }
put (Closing broken) round p = p

-- so many are kept, these are answered one after another, each at its place, and so many are kept then
abbrev pub ArePut : Places → List Reply → Places → Type 0
ArePut p [] q = q ≡ p
ArePut p (r ∷ rs) q = IsPlaced r.path (made_in p.round p.made r.round) × ArePut (put r.path r.round p) rs q

-- ---- callers
-- the first requests that wait are answered, and these are then the last answers
pub record Tells (answers : List h.Answer) (places after_places : Places) (old new : List Request) (last after_last : List (Option Reply)) (before after : List Output) : Type 0 where
  pub given : List Given
  pub gives : Gives [] given before after
  pub told : AreTold given answers
  pub queue : old ≡ map request_of given ++ new
  pub answered : after_last ≡ last_answers (replies_of given) last
  pub placed : ArePut places (replies_of given) after_places

-- the last answers stay such, where these are to calls of clients of the site
pub record KeepsLast (answers : List h.Answer) (last after_last : List (Option Reply)) : Type 0 where
  pub keeps : (w : s.Workload) (site : ℕ) → AreLast w site last → All (λ b. IsCallAt w site (h.called b)) answers → AreLast w site after_last

-- no round after this one is kept, where none was kept and the answers are of none
abbrev pub StaysWithin : List h.Answer → Places → Places → Type 0
StaysWithin answers p q = (last : ℕ) → p.round ≤ last → All (λ (b : h.Answer). b.round ≤ last) answers → q.round ≤ last

-- the answers that a step gives to calls that were made by the end of a round
abbrev pub closed_by : n.Step → List h.Answer
closed_by n.Queued = []
closed_by (n.Kept call prints) = []
closed_by (n.Wanted broken) = []
closed_by n.Held = []
closed_by n.Taken = []
closed_by n.Ignored = []
closed_by (n.Closed answers) = answers
closed_by n.Told = []
