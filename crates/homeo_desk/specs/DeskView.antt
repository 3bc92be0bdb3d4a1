-- What contracts see of a desk.
use Rattle.std.specs.Prelude.{◌≡◌, ℕ, List, [], ◌∷◌, ℤ, All, Option, Some, None, map, length, take, replicate, slice_set, slice_index_or}
use Rattle.homeo_syntax.specs.Source as s
use Rattle.homeo_syntax.specs.SourceView.{plain_workload}
use Rattle.homeo_syntax.specs.declared.workload.Workload.{Workload}
use Rattle.homeo_meaning.specs.declared.call.CallId.{CallId}
use Rattle.homeo_history.specs.Legal.{IsCallAt}
use Rattle.homeo_nodes.specs.declared.breach.Breach.{Breach}
use Rattle.homeo_nodes.specs.declared.breach.Mode.{Mode}
use Rattle.homeo_nodes.specs.declared.breach.Mode.TheVariants.{Running, Waiting, Stopped}
use Rattle.homeo_nodes.specs.Nodes.{Said}
use Rattle.homeo_nodes.specs.Small.{Small}
use Rattle.homeo_live.specs.LiveView.{plain_node}
use Rattle.homeo_desk.specs.declared.output.Answer.{Answer}
use Rattle.homeo_desk.specs.declared.output.Path.{Path}
use Rattle.homeo_desk.specs.declared.output.Request.{Request}
use Rattle.homeo_desk.specs.declared.state.DeskState.{DeskState}

-- what is answered to a request
pub record Reply : Type 0 where
  pub number : ℕ
  pub call : CallId
  pub prints : List ℤ
  pub round : ℕ
  pub path : Path

abbrev pub plain_reply : Answer → Reply
plain_reply a = record { number = a.number; call = a.call; prints = a.prints.items; round = a.round; path = a.path }

-- its workload, its node, how many calls the node has made alone in its round, the requests that wait, and what was answered last to each
-- client
pub record DeskValue : Type 0 where
  pub work : Workload
  pub node : Small
  pub made : ℕ
  pub queue : List Request
  pub answered : List (Option Reply)

abbrev pub calls_of : List Request → List CallId
calls_of requests = map (λ r. r.call) requests

-- the requests are those of the node's calls that wait, one for each, in order
abbrev pub IsPaired : DeskValue → Type 0
IsPaired d = calls_of d.queue ≡ d.node.queue

-- ---- a desk as plain data
-- each of these takes the place of its client's last one
abbrev pub last_answers : List Reply → List (Option Reply) → List (Option Reply)
last_answers [] last = last
last_answers (r ∷ replies) last = last_answers replies (slice_set last r.call.client (Some r))

abbrev pub no_answers : s.Workload → List (Option Reply)
no_answers w = replicate (length w.clients) None

abbrev pub desk_of : Workload → DeskState → DeskValue
desk_of work s = record {
  work = work;
  node = plain_node s.node;
  made = s.made;
  queue = s.queue.items;
  answered = last_answers (map plain_reply s.answered.items) (no_answers (plain_workload work));
}

-- ---- what a stopped node has said of the calls that wait
-- the call that closes the round, if it is one of this site, is the first that waits there
abbrev pub IsFirst : Breach → ℕ → List CallId → Type 0
IsFirst b site queue = b.site ≡ site → take 1 queue ≡ b.call ∷ []

-- what it has said begins the calls that wait
abbrev pub HasSaid : Option Said → List CallId → Type 0
HasSaid None queue = ⊥
HasSaid (Some said) queue = take (length said.calls) queue ≡ said.calls

abbrev pub IsStopped : Mode → ℕ → List (Option Said) → List CallId → Type 0
IsStopped Running site states queue = Unit {0}
IsStopped (Waiting b) site states queue = Unit {0}
IsStopped (Stopped b) site states queue = IsFirst b site queue × HasSaid (slice_index_or states site None) queue

abbrev pub KeepsFirst : Small → Type 0
KeepsFirst x = IsStopped x.mode x.number x.states x.queue

-- a state in which the requests are those of the calls that wait, a stopped node has said the first of these, and each last answer is to a
-- call of a client of the site
pub record CanBegin (w : s.Workload) (s : DeskState) : Type 0 where
  pub paired : calls_of s.queue.items ≡ s.node.queue.items
  pub first : KeepsFirst (plain_node s.node)
  pub answers : All (λ a. IsCallAt w s.node.site a.call) s.answered.items
