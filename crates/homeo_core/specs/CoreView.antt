-- What contracts see of a core (this project's rule).
use Rattle.std.specs.Prelude.{◌≡◌, ℕ, suc, List, [], ◌∷◌, ◌++◌, map, length, replicate, ℤ, Option, Some, None, slice_get, slice_set, slice_index_or}
use Rattle.std.specs.List.{range_with_len}
use Rattle.homeo_syntax.specs.Source as s
use Rattle.homeo_syntax.specs.SourceView.{plain_workload}
use Rattle.homeo_syntax.specs.declared.workload.Workload.{Workload}
use Rattle.homeo_meaning.specs.Acceptance.{IsAccepted}
use Rattle.homeo_meaning.specs.declared.call.CallId.{CallId}
use Rattle.homeo_plan.specs.declared.treaty.Broken.{Broken}
use Rattle.homeo_plan.specs.Planned.{sites_of}
use Rattle.homeo_history.specs.Answers.{Answer, local_answer, closing_answer}
use Rattle.homeo_history.specs.Follows.{Follows}
use Rattle.homeo_history.specs.History.{History}
use Rattle.homeo_history.specs.Legal.{IsClientAt, base_or, calls_of, IsInOrder}
use Rattle.homeo_site.specs.SiteState.{SiteState, step_finding, local_entry, after_local, begun, renewed}
use Rattle.homeo_core.specs.Key.{definitions}
use Rattle.homeo_core.specs.Joined.{BookState, AreJoined, rounds_of, history_of}
use Rattle.homeo_core.specs.Events.{closing_of, next_base, after_closing}

-- the workload, the closed rounds with the base of the open one, the sites in the order of their numbers, and of each client how
-- many of its calls were made
pub record CoreValue : Type 0 where
  pub work : Workload
  pub book : BookState
  pub sites : List SiteState
  pub counts : List ℕ

-- the history so far: the closed rounds, and the open one
abbrev pub core_history : CoreValue → History
unfolding definitions
core_history x = history_of x.book x.sites

-- the database with which the first round begins
abbrev pub start_of : BookState → List ℤ
unfolding definitions
start_of b = base_or b.closed b.base

-- what a core keeps: its rounds and its sites hold, in one round, and each client's calls are in order
pub record CoreHolds (x : CoreValue) : Type 0 where
  pub accepted : IsAccepted (plain_workload x.work)
  pub joined : AreJoined (plain_workload x.work) (start_of x.book) x.book x.sites
  pub ordered : IsInOrder (plain_workload x.work) x.counts (calls_of (rounds_of x.book x.sites))

-- ---- the start
abbrev pub begun_sites : ℕ → List ℤ → List SiteState
unfolding definitions
begun_sites count base = map (λ i. begun i 0 base) (range_with_len 0 count)

-- no call was made, and all sites are in the round 0, on this base
abbrev pub core_at : Workload → List ℤ → CoreValue
unfolding definitions
core_at work base = record {
  work = work;
  book = record { closed = []; base = base };
  sites = begun_sites (sites_of (plain_workload work)) base;
  counts = replicate (length (plain_workload work).clients) 0;
}

-- ---- a step
-- a client's next call
abbrev pub next_call : CoreValue → ℕ → CallId
unfolding definitions
next_call x client = record { client = client; seq = suc (slice_index_or x.counts client 0) }

-- the closed rounds after a call at the site home, of whose treaty this fails first: it closes the round where anything fails
abbrev pub book_after : s.Workload → BookState → List SiteState → ℕ → CallId → Option Broken → BookState
unfolding definitions
book_after w b sites home call None = b
book_after w b sites home call (Some broken) = after_closing w b sites home call broken

-- the sites after it: it is made at its own site alone where nothing fails
abbrev pub sites_after : s.Workload → BookState → List SiteState → ℕ → SiteState → CallId → Option Broken → List SiteState
unfolding definitions
sites_after w b sites home x call None = slice_set sites home (after_local w x call)
sites_after w b sites home x call (Some broken) = map (renewed (next_base w b sites call)) sites

-- the answer to it
abbrev pub answer_to : s.Workload → BookState → List SiteState → ℕ → SiteState → CallId → Option Broken → Answer
unfolding definitions
answer_to w b sites home x call None = local_answer (length b.closed) home (local_entry w x call)
answer_to w b sites home x call (Some broken) = closing_answer (length b.closed) (closing_of w b sites home call broken)

-- a call was made over these rounds and sites, with this answer: it closed the round exactly where its local step at the site
-- home breaks the site's treaty
pub record IsCallMade (w : s.Workload) (b : BookState) (sites : List SiteState) (home : ℕ) (call : CallId) (a : Answer)
    (b' : BookState) (sites' : List SiteState) : Type 0 where
  pub site : SiteState
  pub here : slice_get sites home ≡ Some site
  pub rounds : b' ≡ book_after w b sites home call (step_finding w site call)
  pub states : sites' ≡ sites_after w b sites home site call (step_finding w site call)
  pub answer : a ≡ answer_to w b sites home site call (step_finding w site call)

-- it was made so, with some answer
pub record WasCallMade (w : s.Workload) (b : BookState) (sites : List SiteState) (home : ℕ) (call : CallId)
    (b' : BookState) (sites' : List SiteState) : Type 0 where
  pub answer : Answer
  pub made : IsCallMade w b sites home call answer b' sites'

-- a client's next call was made, at the client's site, and this is its answer
pub record IsStep (x : CoreValue) (client : ℕ) (a : Answer) (x' : CoreValue) : Type 0 where
  pub home : ℕ
  pub at_home : IsClientAt (plain_workload x.work) home client
  pub made : IsCallMade (plain_workload x.work) x.book x.sites home (next_call x client) a x'.book x'.sites
  pub work : x'.work ≡ x.work
  pub counts : x'.counts ≡ slice_set x.counts client (suc (slice_index_or x.counts client 0))

-- it was made so, with some answer
pub record IsSomeStep (x : CoreValue) (client : ℕ) (x' : CoreValue) : Type 0 where
  pub answer : Answer
  pub step : IsStep x client answer x'

-- each list of calls that the history h followed is followed, with this call at its end, by the history h'
abbrev pub GoesOnBy : s.Workload → History → CallId → History → Type 0
GoesOnBy w h call h' = (calls : List CallId) → Follows w h calls → Follows w h' (calls ++ call ∷ [])
