-- The laws of nodes, over every list of events.
use Rattle.std.specs.Prelude.{◌≡◌, ℕ, ◌≤◌, ◌==◌, true, List, [], ◌∷◌, ◌++◌, map, length, take, filter, Some, Contains, slice_get}
use Rattle.homeo_syntax.specs.Source as s
use Rattle.homeo_meaning.specs.Acceptance.{IsAccepted}
use Rattle.homeo_meaning.specs.Initial.{initial}
use Rattle.homeo_meaning.specs.declared.call.CallId.{CallId}
use Rattle.homeo_history.specs.Answers.{Answer, answers_of}
use Rattle.homeo_history.specs.Follows.{Follows}
use Rattle.homeo_history.specs.History.{Round}
use Rattle.homeo_history.specs.Legal.{IsSerialFrom}
use Rattle.homeo_history.specs.Merge.{segment_of}
use Rattle.homeo_site.specs.SiteState.{renewed}
use Rattle.homeo_core.specs.Joined.{rounds_of, history_of}
use Rattle.homeo_nodes.specs.declared.breach.Breach.{Breach}
use Rattle.homeo_nodes.specs.Key.{definitions}
use Rattle.homeo_nodes.specs.Making.{Joint, Called, made_all, AreCalls, first_joint}
use Rattle.homeo_nodes.specs.Nodes.{Said, Packet, Stop, State, left_of, Journal, Node, is_running, calls_at, next_of, newest, closed, World, Event, resent, most_waiting, reached}
use Rattle.homeo_nodes.specs.Told.{answers_in}

-- ---- one round
abbrev pub journals : World → List Journal
unfolding definitions
journals x = map (λ n. n.journal) x.nodes

-- two nodes that are in one round have one base, and have left the same rounds
pub record IsOneRound (j l : Journal) : Type 0 where
  pub base : j.site.base ≡ l.site.base
  pub bases : map (λ r. r.base) j.left ≡ map (λ r. r.base) l.left
  pub closings : map (λ r. r.closing) j.left ≡ map (λ r. r.closing) l.left

abbrev pub HasOneRound : World → Type 0
unfolding definitions
HasOneRound x =
    (i k : ℕ) (j l : Journal) → slice_get (journals x) i ≡ Some j → slice_get (journals x) k ≡ Some l →
    j.site.round ≡ l.site.round → IsOneRound j l

abbrev pub OneRound : Type 0
unfolding definitions
OneRound = (w : s.Workload) (events : List Event) → IsAccepted w → HasOneRound (reached w events)

-- ---- the history
-- the rounds that the node of this number has left are the first of these, as it has run them, and it is in the next one, on its base and
-- with what was made in it at its site
pub record HasRun (rounds : List Round) (i : ℕ) (j : Journal) : Type 0 where
  pub left : j.left ≡ map (left_of i) (take j.site.round rounds)
  pub round : Round
  pub here : slice_get rounds j.site.round ≡ Some round
  pub base : j.site.base ≡ round.base
  pub segment : j.site.segment ≡ segment_of round.segments i

-- the calls of a site among these, in order
abbrev pub calls_of : ℕ → List Called → List CallId
unfolding definitions
calls_of i calls = map (λ c. c.call) (filter (λ c. c.site == i) calls)

-- the answers of a site, in order
abbrev pub at_site : ℕ → List Answer → List Answer
unfolding definitions
at_site i answers = filter (λ a. a.site == i) answers

-- the answers to the calls of these rounds at the site begin with those that stand in the journal
pub record IsAnswered (rounds : List Round) (i : ℕ) (j : Journal) : Type 0 where
  pub rest : List Answer
  pub begins : at_site i (answers_of 0 rounds) ≡ answers_in i j ++ rest

-- these calls of a site are all that its node has taken on, in order and each once, but for the last ones, which wait; those before them in
-- its queue were made by others, as its state carried them
pub record IsOnce (calls : List Called) (i : ℕ) (n : Node) : Type 0 where
  pub waits : List CallId
  pub once : calls_of i calls ++ waits ≡ n.journal.asked
  pub made : List CallId
  pub queue : n.queue ≡ made ++ waits
  pub running : is_running n.mode ≡ true → made ≡ []

-- what the core makes of these calls, from the initial database on
abbrev pub joint_of : s.Workload → List Called → Joint
unfolding definitions
joint_of w calls = made_all w calls (first_joint w)

-- these calls, made by the core one after another from the initial database on, are what the nodes have done: each node has run its rounds
-- as they stand there, and one that is in the last of them has its site there; what it has answered stands there; and at each site they are
-- the calls that its node has taken on. That history is serial, and follows this list
pub record IsStory (w : s.Workload) (x : World) (calls : List Called) : Type 0 where
  pub at_sites : AreCalls w calls
  pub journals_are : (i : ℕ) (j : Journal) → slice_get (journals x) i ≡ Some j →
      HasRun (rounds_of (joint_of w calls).book (joint_of w calls).sites) i j
  pub sites : (i : ℕ) (j : Journal) → slice_get (journals x) i ≡ Some j → j.site.round ≡ length (joint_of w calls).book.closed →
      slice_get (joint_of w calls).sites i ≡ Some j.site
  pub answered : (i : ℕ) (j : Journal) → slice_get (journals x) i ≡ Some j →
      IsAnswered (rounds_of (joint_of w calls).book (joint_of w calls).sites) i j
  pub once : (i : ℕ) (n : Node) → slice_get x.nodes i ≡ Some n → IsOnce calls i n
  pub serial : IsSerialFrom w (initial w) (history_of (joint_of w calls).book (joint_of w calls).sites)
  pub follows : Follows w (history_of (joint_of w calls).book (joint_of w calls).sites) (map (λ c. c.call) calls)

abbrev pub OneStory : Type 0
unfolding definitions
OneStory = (w : s.Workload) (events : List Event) → IsAccepted w → (calls : List Called) × IsStory w (reached w events) calls

-- ---- packets
-- a round is stopped by one call, and each site says one thing in it
pub record IsOneEach (ps : List Packet) : Type 0 where
  pub stop : (a b : Breach) → Contains ps (Stop a) → Contains ps (Stop b) → a.round ≡ b.round → a ≡ b
  pub state : (r i : ℕ) (d e : Said) → Contains ps (State r i d) → Contains ps (State r i e) → d ≡ e

abbrev pub OneEachRound : Type 0
unfolding definitions
OneEachRound = (w : s.Workload) (events : List Event) → IsAccepted w → IsOneEach (reached w events).packets

-- what a node would send again was sent
abbrev pub SentBefore : Type 0
unfolding definitions
SentBefore =
    (w : s.Workload) (events : List Event) (i : ℕ) (n : Node) (p : Packet) → IsAccepted w →
    slice_get (reached w events).nodes i ≡ Some n → Contains (resent n) p → Contains (reached w events).packets p

-- a state carries no more calls than may wait
abbrev pub FewCarried : Type 0
unfolding definitions
FewCarried =
    (w : s.Workload) (events : List Event) (r i : ℕ) (said : Said) → IsAccepted w →
    Contains (reached w events).packets (State r i said) → length said.calls ≤ most_waiting

-- ---- where no calls are carried
-- a node closes its round by the stopped call alone, and begins the next one with no call made
abbrev pub PlainCloses : Type 0
unfolding definitions
PlainCloses =
    (w : s.Workload) (u : Breach) (states : List Said) (j : Journal) →
    ((k : ℕ) (said : Said) → slice_get states k ≡ Some said → calls_at u k said ≡ []) →
    closed w u states j ≡ record {
      site = renewed (next_of w u states j) j.site;
      left = j.left ++ newest w u states j ∷ [];
      asked = j.asked;
    }
