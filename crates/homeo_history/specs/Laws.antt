-- The laws of merges, of histories and of their answers.
use Rattle.std.specs.Prelude.{◌≡◌, ℕ, List, [], ◌∷◌, map, ℤ, All, slice_index_or}
use Rattle.std.specs.List.{range_with_len}
use Rattle.homeo_syntax.specs.Source as s
use Rattle.homeo_meaning.specs.declared.call.CallId.{CallId}
use Rattle.homeo_meaning.specs.Acceptance.{IsAccepted}
use Rattle.homeo_meaning.specs.Bounds.{IsWithin}
use Rattle.homeo_meaning.specs.Schema.{schema_of}
use Rattle.homeo_plan.specs.Local.{no_deltas}
use Rattle.homeo_history.specs.Key.{definitions}
use Rattle.homeo_history.specs.History.{Round, History}
use Rattle.homeo_history.specs.Merge.{segment_of}
use Rattle.homeo_history.specs.Legal.{IsCallAt, IsAtSites, HasMerges, ClosesWith, base_or, AreSerial, IsLegalFrom, IsInOrder, IsSerialFrom, calls_of}
use Rattle.homeo_history.specs.Replayed.{KeepsAll, fold_of, IsReplayed}
use Rattle.homeo_history.specs.Follows.{Follows}
use Rattle.homeo_history.specs.Answers.{answers_of, answers_to, IsAnswerIn}

-- each segment is of calls of clients at its site, which in the replay keep the site's treaty with these prints
pub record HasSegments (w : s.Workload) (r : Round) : Type 0 where
  pub at_sites : (site : ℕ) → All (λ e. IsCallAt w site e.call) (segment_of r.segments site)
  pub replayed : (site : ℕ) → KeepsAll w r.base site no_deltas (segment_of r.segments site)

-- then every merge of the round's entries, run on its base, gives their prints, and the fold of the replays' ends
abbrev pub MergeLaw : Type 0
MergeLaw =
    (w : s.Workload) (r : Round) → IsAccepted w → IsWithin (schema_of w) r.base → HasSegments w r →
    HasMerges w r (fold_of w r)

-- and this fold is within bounds
abbrev pub FoldWithin : Type 0
FoldWithin =
    (w : s.Workload) (r : Round) → IsAccepted w → IsWithin (schema_of w) r.base → HasSegments w r →
    IsWithin (schema_of w) (fold_of w r)

-- each round's closing call takes the round's fold to the next base; what an open round leaves is its fold
abbrev pub AreFolded : s.Workload → List Round → List ℤ → Type 0
unfolding definitions
AreFolded w [] last = Unit {0}
AreFolded w (r ∷ rounds) last =
    ClosesWith w (fold_of w r) r.closing (base_or rounds last) × AreFolded w rounds last

-- so replayed rounds from a database within bounds are serial where they are folded
abbrev pub ReplaysAreSerial : Type 0
ReplaysAreSerial =
    (w : s.Workload) (rounds : List Round) (last : List ℤ) → IsAccepted w →
    IsWithin (schema_of w) (base_or rounds last) → All (IsAtSites w) rounds → All (IsReplayed w) rounds →
    AreFolded w rounds last → AreSerial w rounds last

-- two legal histories from one database that follow one list of calls are equal
abbrev pub OneHistory : Type 0
OneHistory =
    (w : s.Workload) (start : List ℤ) (counts : List ℕ) (h h' : History) (calls : List CallId) →
    IsLegalFrom w start counts h → IsLegalFrom w start counts h' → Follows w h calls → Follows w h' calls → h ≡ h'

-- the answers to a client are those to its first calls in order, and each is that of its call
pub record AreAnswered (rounds : List Round) (client count : ℕ) : Type 0 where
  pub numbers : map (λ a. a.seq) (answers_to client (answers_of 0 rounds)) ≡ range_with_len 1 count
  pub each : All (IsAnswerIn rounds) (answers_to client (answers_of 0 rounds))

-- so the answers of a legal history
abbrev pub AnswersStand : Type 0
AnswersStand =
    (w : s.Workload) (start : List ℤ) (counts : List ℕ) (h : History) (client : ℕ) → IsLegalFrom w start counts h →
    AreAnswered h.rounds client (slice_index_or counts client 0)

-- a legal history is a serial one whose calls are each client's first in order
pub record LegalIsSerial (w : s.Workload) (start : List ℤ) (counts : List ℕ) (h : History) : Type 0 where
  pub serial : IsLegalFrom w start counts h → IsSerialFrom w start h
  pub ordered : IsLegalFrom w start counts h → IsInOrder w counts (calls_of h.rounds)
  pub legal : IsSerialFrom w start h → IsInOrder w counts (calls_of h.rounds) → IsLegalFrom w start counts h

abbrev pub Serially : Type 0
Serially = (w : s.Workload) (start : List ℤ) (counts : List ℕ) (h : History) → LegalIsSerial w start counts h
