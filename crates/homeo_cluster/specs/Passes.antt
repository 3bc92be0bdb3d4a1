-- What contracts see of a client's pass, and what a call does to it (this project's rule).
use Rattle.std.specs.Prelude.{◌≡◌, ℕ, suc, ◌+◌, ◌<◌, List, [], ◌∷◌, ◌++◌, map, length, Some, All, slice_get, slice_index_or}
use Rattle.std.specs.List.{range_with_len}
use mathlib.Core.List.{IsPrefix}
use Rattle.homeo_syntax.specs.Source as s
use Rattle.homeo_meaning.specs.declared.call.CallId.{CallId}
use Rattle.homeo_notes.specs.Lines.{Held, IsOwner, HasSeen, list_at}
use Rattle.homeo_history.specs.Answers.{Answer, called}
use Rattle.homeo_history.specs.Legal.{IsClientAt, call_count}
use Rattle.homeo_assembly.specs.Written.{written}
use Rattle.homeo_cluster.specs.Places.{asked_line, done_line}

-- the client, how many calls it has left, the answers that it got, and what its holder of lines has
pub record PassValue : Type 0 where
  pub client : ℕ
  pub left : ℕ
  pub log : List Answer
  pub held : Held

-- ---- what a pass keeps
-- the answers and the calls left are together the client's calls; the answers are to the client's calls 1, 2 and so on
pub record IsLog (w : s.Workload) (client left : ℕ) (log : List Answer) : Type 0 where
  pub there : client < length w.clients
  pub all : length log + left ≡ call_count w client
  pub own : All (λ a. a.client ≡ client) log
  pub numbered : map (λ a. a.seq) log ≡ range_with_len 1 (length log)

-- the client's list of what it was asked is its log, and the pass has seen at least this of what the site has done for it
pub record HoldsLog (w : s.Workload) (client : ℕ) (log : List Answer) (h : Held) : Type 0 where
  pub owns : IsOwner h (asked_line client)
  pub asked : list_at h (asked_line client) ≡ map written log
  pub seen : HasSeen h (done_line w client) (list_at h (asked_line client))

pub record IsPass (w : s.Workload) (p : PassValue) : Type 0 where
  pub logged : IsLog w p.client p.left p.log
  pub holds : HoldsLog w p.client p.log p.held

-- ---- calls
-- the pass's next call
abbrev pub next_call : PassValue → CallId
next_call p = record { client = p.client; seq = suc (length p.log) }

-- the pass has one call fewer left; the answer is to its next call, at its client's site, and stands last in its log
pub record IsReplied (w : s.Workload) (p p' : PassValue) (a : Answer) : Type 0 where
  pub client : p'.client ≡ p.client
  pub left : p'.left + 1 ≡ p.left
  pub log : p'.log ≡ p.log ++ a ∷ []
  pub call : called a ≡ next_call p
  pub site : IsClientAt w a.site p.client

-- ---- all passes of a cluster
abbrev pub logs_of : List PassValue → List (List Answer)
logs_of passes = map (λ (p : PassValue). p.log) passes

-- the passes of all clients, in order
pub record AreAll (w : s.Workload) (passes : List PassValue) : Type 0 where
  pub count : length passes ≡ length w.clients
  pub clients : (i : ℕ) (p : PassValue) → slice_get passes i ≡ Some p → p.client ≡ i

-- none of them has made a call
pub record AreBegun (w : s.Workload) (passes : List PassValue) : Type 0 where
  pub all : AreAll w passes
  pub logs : All (λ (p : PassValue). p.log ≡ []) passes

-- the same passes in the same order; none has a call left, and each log goes on where it was
pub record AreFinished (before after : List PassValue) : Type 0 where
  pub same : map (λ (p : PassValue). p.client) after ≡ map (λ (p : PassValue). p.client) before
  pub left : All (λ (p : PassValue). p.left ≡ 0) after
  pub logs : (i : ℕ) (e : PassValue) → i < length before → IsPrefix (slice_index_or before i e).log (slice_index_or after i e).log

-- the client got an answer to each of its calls
abbrev pub HasAllAnswers : s.Workload → PassValue → Type 0
HasAllAnswers w p = length p.log ≡ call_count w p.client
