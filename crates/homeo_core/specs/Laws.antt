-- The laws of closed rounds and sites.
use Rattle.std.specs.Prelude.{◌≡◌, ℕ, suc, ◌<◌, ◌≤◌, List, [], ◌∷◌, ◌++◌, map, length, take, ℤ, Some, slice_get, slice_set, slice_index_or}
use Rattle.homeo_syntax.specs.Source as s
use Rattle.homeo_meaning.specs.Acceptance.{IsAccepted}
use Rattle.homeo_meaning.specs.Bounds.{IsWithin}
use Rattle.homeo_meaning.specs.declared.call.CallId.{CallId}
use Rattle.homeo_meaning.specs.Schema.{schema_of}
use Rattle.homeo_plan.specs.declared.treaty.Broken.{Broken}
use Rattle.homeo_history.specs.Answers.{Answer, local_answer, closing_answer}
use Rattle.homeo_history.specs.Follows.{Follows}
use Rattle.homeo_history.specs.History.{Round}
use Rattle.homeo_history.specs.Legal.{IsCallAt, call_count, calls_of, IsInOrder, IsLegalFrom}
use Rattle.homeo_site.specs.SiteState.{SiteState, KeepsCall, local_entry, after_local, renewed}
use Rattle.homeo_core.specs.Key.{definitions}
use Rattle.homeo_core.specs.Joined.{BookState, AreJoined, gathered, rounds_of, history_of}
use Rattle.homeo_core.specs.Events.{BreaksCall, closing_of, next_base, after_closing, OneMore, IsAfter}

-- closed rounds and sites in one round, with each client's calls in order, are a legal history
abbrev pub Joining : Type 0
unfolding definitions
Joining =
    (w : s.Workload) (start : List ℤ) (b : BookState) (sites : List SiteState) (counts : List ℕ) → IsAccepted w →
    AreJoined w start b sites → IsInOrder w counts (calls_of (rounds_of b sites)) →
    IsLegalFrom w start counts (history_of b sites)

-- the base with the deltas of the first n sites is within bounds, and so with those of all
abbrev pub Gathering : Type 0
unfolding definitions
Gathering =
    (w : s.Workload) (start : List ℤ) (b : BookState) (sites : List SiteState) (n : ℕ) → IsAccepted w →
    AreJoined w start b sites → IsWithin (schema_of w) (gathered b.base (take n sites))

-- ---- a local call
abbrev pub CoreLocal : Type 0
unfolding definitions
CoreLocal =
    (w : s.Workload) (start : List ℤ) (b : BookState) (sites : List SiteState) (home : ℕ) (x : SiteState) (call : CallId) →
    IsAccepted w → AreJoined w start b sites → slice_get sites home ≡ Some x → IsCallAt w home call → KeepsCall w x call →
    IsAfter w start (local_answer (length b.closed) home (local_entry w x call)) b b sites
    (slice_set sites home (after_local w x call))

abbrev pub FollowsLocal : Type 0
unfolding definitions
FollowsLocal =
    (w : s.Workload) (start : List ℤ) (b : BookState) (sites : List SiteState) (home : ℕ) (x : SiteState) (call : CallId)
    (calls : List CallId) → AreJoined w start b sites → slice_get sites home ≡ Some x → IsCallAt w home call →
    Follows w (history_of b sites) calls →
    Follows w (history_of b (slice_set sites home (after_local w x call))) (calls ++ call ∷ [])

-- ---- a call that closes the round
abbrev pub CoreCleanup : Type 0
unfolding definitions
CoreCleanup =
    (w : s.Workload) (start : List ℤ) (b : BookState) (sites : List SiteState) (home : ℕ) (call : CallId) (broken : Broken) →
    IsAccepted w → AreJoined w start b sites → BreaksCall w sites home call broken →
    IsAfter w start (closing_answer (length b.closed) (closing_of w b sites home call broken)) b
    (after_closing w b sites home call broken) sites (map (renewed (next_base w b sites call)) sites)

abbrev pub FollowsCleanup : Type 0
unfolding definitions
FollowsCleanup =
    (w : s.Workload) (b : BookState) (sites : List SiteState) (home : ℕ) (call : CallId) (broken : Broken)
    (calls : List CallId) → Follows w (history_of b sites) calls →
    Follows w (history_of (after_closing w b sites home call broken) (map (renewed (next_base w b sites call)) sites))
    (calls ++ call ∷ [])

-- ---- each client's calls
-- with one call more of its client, they are in order
abbrev pub CoreOrder : Type 0
unfolding definitions
CoreOrder =
    (w : s.Workload) (counts : List ℕ) (a : Answer) (old new : List Round) → IsInOrder w counts (calls_of old) →
    OneMore a old new → a.client < length counts → a.seq ≡ suc (slice_index_or counts a.client 0) →
    a.seq ≤ call_count w a.client → IsInOrder w (slice_set counts a.client a.seq) (calls_of new)
