-- What a node does with a line (this project's rule).
use Rattle.std.specs.Prelude.{◌≡◌, ◌⊎◌, ◌<◌, ◌≤◌, ◌&&◌, ℕ, Bool, true, false, List, [], ◌∷◌, ◌++◌, All, length, map, Option, None, Some, is_some, is_none}
use Rattle.homeo_syntax.specs.Source as s
use Rattle.homeo_syntax.specs.SourceView.{plain_workload}
use Rattle.homeo_syntax.specs.declared.workload.Workload.{Workload}
use Rattle.homeo_meaning.specs.declared.call.CallId.{CallId}
use Rattle.homeo_plan.specs.Planned.{sites_of}
use Rattle.homeo_history.specs.Legal.{IsCallAt}
use Rattle.homeo_nodes.specs.Nodes as n
use Rattle.homeo_nodes.specs.Nodes.{of_past}
use Rattle.homeo_live.specs.LiveView.{IsReached}
use Rattle.homeo_desk.specs.DeskView.{DeskValue, Reply, KeepsFirst, calls_of, last_answers, no_answers}
use Rattle.homeo_desk.specs.Moves.{IsMove}
use Rattle.homeo_desk.specs.Requests.{Replies, standing}
use Rattle.homeo_desk.specs.Runs.{first_desk}
use Rattle.homeo_desk.specs.declared.output.Output.{Output}
use Rattle.homeo_desk.specs.declared.output.Request.{Request}
use Rattle.homeo_lines.specs.Lines as l
use Rattle.homeo_lines.specs.Read.{IsReadAs, IsNoJson, no_line, malformed, unlisted}
use Rattle.homeo_process.specs.Driven.{Voice, Driven, voice_of, place_of, sender, line_to, lines_of}

-- the most bytes of a line, without its newline
abbrev pub line_limit : ℕ
line_limit = 16777216

-- a message that only a node takes which a line has told its names
abbrev pub not_begun : ℕ
not_begun = 11

-- ---- states
abbrev pub reply_of : l.Answer → Reply
reply_of a = record { number = a.number; call = a.call; prints = a.prints; round = a.round; path = a.path }

-- the desk that has this state
abbrev pub desk_at : Workload → l.State → DeskValue
desk_at work s = record {
  work = work;
  node = s.node;
  made = s.made;
  queue = s.queue;
  answered = last_answers (map reply_of s.answered) (no_answers (plain_workload work));
}

-- a state in which the requests are those of the calls that wait, a stopped node has said the first of these, and each last answer is to a
-- call of a client of the site
pub record CanBegin (w : s.Workload) (s : l.State) : Type 0 where
  pub paired : calls_of s.queue ≡ s.node.queue
  pub first : KeepsFirst s.node
  pub answers : All (λ a. IsCallAt w s.node.number a.call) s.answered

-- ---- complaints
-- an error of a code is said to whom a line came from; but to a node only where its line has a number, so that two nodes never answer each
-- other's errors
abbrev pub is_unasked : Voice → Option (List ℕ) → Option ℕ → Bool
is_unasked v from number = is_none number && is_some (sender v.names from)

abbrev pub Says : Bool → Voice → Option (List ℕ) → Option ℕ → ℕ → List ℕ → Type 0
Says true v from number code written = written ≡ []
Says false v from number code written = (text : List ℕ) × (written ≡ line_to v from (l.Error number code text))

abbrev pub Complains : Voice → Option (List ℕ) → Option ℕ → ℕ → List ℕ → Type 0
Complains v from number code written = Says (is_unasked v from number) v from number code written

-- the node stays as it is
pub record Fails (d : Driven) (from : Option (List ℕ)) (number : Option ℕ) (code : ℕ) (after : Driven) (written : List ℕ) : Type 0 where
  pub same : after ≡ d
  pub complains : Complains (voice_of d) from number code written

-- ---- what a node that has begun does with a message
abbrev pub with_desk : Driven → DeskValue → Driven
with_desk d desk = record { work = d.work; names = d.names; desk = Some desk }

-- a request
pub record Answers (d : Driven) (desk : DeskValue) (r : Request) (after : Driven) (written : List ℕ) : Type 0 where
  pub new : DeskValue
  pub outputs : List Output
  pub replies : Replies (standing desk r) r desk new [] outputs
  pub then : after ≡ with_desk d new
  pub wrote : written ≡ lines_of (voice_of d) outputs

-- a call of a client of the site has a number and somebody who asks it
abbrev pub Asks : Driven → DeskValue → CallId → Option (List ℕ) → Option ℕ → Driven → List ℕ → Type 0
Asks d desk call from None after written = Fails d from None malformed after written
Asks d desk call None (Some number) after written = Fails d None (Some number) malformed after written
Asks d desk call (Some caller) (Some number) after written = Answers d desk (record { caller = caller; number = number; call = call }) after written

abbrev pub IsOwn : DeskValue → CallId → Type 0
IsOwn desk call = IsCallAt (plain_workload desk.work) desk.node.number call

-- packets of a node; what it complains of it didn't take, or not whole
pub record Moves (d : Driven) (desk : DeskValue) (packets : List n.Packet) (from : Option (List ℕ)) (number : Option ℕ) (after : Driven) (written : List ℕ) : Type 0 where
  pub new : DeskValue
  pub outputs : List Output
  pub complaint : List ℕ
  pub move : IsMove [] packets desk new [] outputs
  pub complains : (complaint ≡ []) ⊎ Complains (voice_of d) from number malformed complaint
  pub then : after ≡ with_desk d new
  pub wrote : written ≡ lines_of (voice_of d) outputs ++ complaint

abbrev pub Takes : Option ℕ → Driven → DeskValue → List n.Packet → Option (List ℕ) → Option ℕ → Driven → List ℕ → Type 0
Takes None d desk packets from number after written = Fails d from number malformed after written
Takes (Some site) d desk packets from number after written = Moves d desk packets from number after written

-- its state, from which it can be begun again
pub record Shows (d : Driven) (desk : DeskValue) (from : Option (List ℕ)) (number : Option ℕ) (after : Driven) (written : List ℕ) : Type 0 where
  pub state : l.State
  pub is_desk : desk_at desk.work state ≡ desk
  pub can_begin : CanBegin (plain_workload desk.work) state
  pub same : after ≡ d
  pub wrote : written ≡ line_to (voice_of d) from (l.SnapshotOk number state)

-- its round and how many requests wait
pub record Tells (d : Driven) (desk : DeskValue) (from : Option (List ℕ)) (number : Option ℕ) (after : Driven) (written : List ℕ) : Type 0 where
  pub same : after ≡ d
  pub wrote : written ≡ line_to (voice_of d) from (l.StatusOk number desk.node (length desk.queue))

-- ---- how it begins
abbrev pub BeginsAt : Workload → ℕ → Option l.State → DeskValue → Type 0
BeginsAt work site None desk = desk ≡ first_desk work site
BeginsAt work site (Some state) desk = (state.node.number ≡ site) × (desk ≡ desk_at work state)

-- one of the names is the node's, and there are as many as sites
pub record AreNames (w : s.Workload) (node : List ℕ) (nodes : List (List ℕ)) (site : ℕ) : Type 0 where
  pub there : place_of node nodes ≡ Some site
  pub many : length nodes ≡ sites_of w

pub record Begins (d : Driven) (node : List ℕ) (nodes : List (List ℕ)) (state : Option l.State) (from : Option (List ℕ)) (number : Option ℕ) (after : Driven) (written : List ℕ) : Type 0 where
  pub site : ℕ
  pub desk : DeskValue
  pub names : AreNames (plain_workload d.work) node nodes site
  pub begins : BeginsAt d.work site state desk
  pub then : after ≡ record { work = d.work; names = Some (record { ids = nodes; own = site }); desk = Some desk }
  pub wrote : written ≡ line_to (voice_of after) from (l.InitOk number)

-- there is a desk that has the state: none is given, or it is one of the site's, of a node that nodes have led to
abbrev pub HasDesk : s.Workload → ℕ → Option l.State → Type 0
HasDesk w site None = Unit {0}
HasDesk w site (Some state) = (state.node.number ≡ site) × IsReached w state.node × CanBegin w state

-- it begins, or complains where that isn't sure
abbrev pub Starts : (d : Driven) → (node : List ℕ) → (nodes : List (List ℕ)) → Option l.State → Option (List ℕ) → Option ℕ → Driven → List ℕ → Type 0
Starts d node nodes state from number after written =
    Begins d node nodes state from number after written
    ⊎ (Fails d from number malformed after written × ((site : ℕ) → AreNames (plain_workload d.work) node nodes site → HasDesk (plain_workload d.work) site state → ⊥))

-- ---- a line
-- of a node that has begun
abbrev pub Serves : Driven → DeskValue → l.Message → Option (List ℕ) → Option ℕ → Driven → List ℕ → Type 0
Serves d desk (l.Init node nodes state) from number after written = Fails d from number malformed after written
Serves d desk (l.Call call) from number after written =
    (IsOwn desk call × Asks d desk call from number after written) ⊎ ((IsOwn desk call → ⊥) × Fails d from number unlisted after written)
Serves d desk (l.Came packet) from number after written = Takes (sender d.names from) d desk (packet ∷ []) from number after written
Serves d desk (l.HasLeft past) from number after written = Takes (sender d.names from) d desk (of_past (Some past)) from number after written
Serves d desk l.Tick from number after written = Moves d desk [] from number after written × (after ≡ d)
Serves d desk l.Snapshot from number after written = Shows d desk from number after written
Serves d desk l.Status from number after written = Tells d desk from number after written
Serves d desk (l.Wrong code) from number after written = Fails d from number code after written

-- of a node that hasn't
abbrev pub Waits : Driven → l.Message → Option (List ℕ) → Option ℕ → Driven → List ℕ → Type 0
Waits d (l.Init node nodes state) from number after written = Starts d node nodes state from number after written
Waits d (l.Wrong code) from number after written = Fails d from number code after written
Waits d (l.Call call) from number after written = Fails d from number not_begun after written
Waits d (l.Came packet) from number after written = Fails d from number not_begun after written
Waits d (l.HasLeft past) from number after written = Fails d from number not_begun after written
Waits d l.Tick from number after written = Fails d from number not_begun after written
Waits d l.Snapshot from number after written = Fails d from number not_begun after written
Waits d l.Status from number after written = Fails d from number not_begun after written

abbrev pub Does : Driven → Option DeskValue → l.Line → Driven → List ℕ → Type 0
Does d None x after written = Waits d x.message x.from x.number after written
Does d (Some desk) x after written = Serves d desk x.message x.from x.number after written

-- a line, without its newline; one that is too long, or no JSON, is malformed
pub data IsTaken (d : Driven) (line : List ℕ) (after : Driven) (written : List ℕ) : Type 0 where
  long : line_limit < length line → Fails d None None malformed after written → IsTaken d line after written
  no_json : length line ≤ line_limit → IsNoJson line → Does d d.desk no_line after written → IsTaken d line after written
  json : length line ≤ line_limit → (x : l.Line) → IsReadAs (plain_workload d.work) line x → Does d d.desk x after written → IsTaken d line after written
