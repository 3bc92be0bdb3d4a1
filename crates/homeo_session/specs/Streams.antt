-- What is answered to a stream (this project's rule).
use Rattle.std.specs.Prelude.{◌≡◌, ◌⊎◌, ◌<◌, ◌≤◌, ℕ, Bool, List, [], ◌∷◌, ◌++◌, length, Option, None}
use Rattle.homeo_syntax.specs.declared.workload.Refusal.{Refusal}
use Rattle.homeo_frames.specs.Frames.{IsFrame, IsCut}
use Rattle.homeo_session.specs.Batches.{HeadValue, RefusesHead, IsAnswered}

-- the most bytes of a frame, and of a stream
abbrev pub frame_limit : ℕ
frame_limit = 1048576

abbrev pub stream_limit : ℕ
stream_limit = 67108864

-- ---- frames one after another
-- their answers, one after another, and the head after them
abbrev pub AreAnswered : Option HeadValue → List (List ℕ) → List ℕ → Option HeadValue → Type 0
AreAnswered head [] out last = (out ≡ []) × (last ≡ head)
AreAnswered head (frame ∷ frames) out last =
    (answer : List ℕ) × (more : List ℕ) × (next : Option HeadValue) × (out ≡ answer ++ more) × IsAnswered head frame answer next
    × AreAnswered next frames more last

-- none has more bytes than it may
abbrev pub AreShort : List (List ℕ) → Type 0
AreShort [] = Unit {0}
AreShort (frame ∷ frames) = (length frame ≤ frame_limit) × AreShort frames

-- ---- a stream so far
-- What a session keeps: the head once there is one, the bytes of the frame that hasn't ended, and how many bytes it took.
pub record State : Type 0 where
  pub head : Option HeadValue
  pub rest : List ℕ
  pub count : ℕ

-- what contracts see of a session
pub record SessionValue : Type 0 where
  pub state : State
  pub spent : Bool

-- before any byte
abbrev pub begun : State
begun = record { head = None; rest = []; count = 0 }

-- These bytes stop no session, and are answered so far by these; this is what a session keeps after them.
pub record IsAfter (bytes out : List ℕ) (s : State) : Type 0 where
  pub frames : List (List ℕ)
  pub cut : IsCut bytes frames s.rest
  pub answered : AreAnswered None frames out s.head
  pub short : AreShort frames
  pub rest_short : length s.rest ≤ frame_limit
  pub counted : s.count ≡ length bytes
  pub within : length bytes ≤ stream_limit

-- ---- stops
-- E2: the frame has more bytes than it may
pub record IsTooLong (s : State) (r : Refusal) : Type 0 where
  pub full : length s.rest ≡ frame_limit
  pub is : r ≡ record { code = 2; offset = frame_limit }

-- E16: the stream has more bytes than it may
pub record IsTooMuch (s : State) (r : Refusal) : Type 0 where
  pub short : length s.rest < frame_limit
  pub full : s.count ≡ stream_limit
  pub is : r ≡ record { code = 16; offset = stream_limit }

-- the byte ends the head, which is refused
pub record EndsRefused (s : State) (byte : ℕ) (r : Refusal) : Type 0 where
  pub short : length s.rest < frame_limit
  pub within : s.count < stream_limit
  pub first : s.head ≡ None
  pub frame : IsFrame (s.rest ++ byte ∷ [])
  pub refused : RefusesHead (s.rest ++ byte ∷ []) r

-- one byte more stops the session by this refusal
abbrev pub Decides : State → ℕ → Refusal → Type 0
Decides s byte r = IsTooLong s r ⊎ (IsTooMuch s r ⊎ EndsRefused s byte r)

-- One of these bytes stops the session, and these are the answers to all frames before it.
pub record IsStopped (bytes out : List ℕ) (r : Refusal) : Type 0 where
  pub before : List ℕ
  pub byte : ℕ
  pub after : List ℕ
  pub are : bytes ≡ before ++ byte ∷ after
  pub state : State
  pub goes_on : IsAfter before out state
  pub decides : Decides state byte r

-- ---- a whole stream
-- all frames: what hasn't ended is one more, unless there is none; the head is there in each case
abbrev pub with_rest : List (List ℕ) → List ℕ → List (List ℕ)
with_rest [] rest = rest ∷ []
with_rest (frame ∷ frames) [] = frame ∷ frames
with_rest (frame ∷ frames) (byte ∷ rest) = (frame ∷ frames) ++ (byte ∷ rest) ∷ []

-- These bytes are a whole stream that stops no session, and these are its answers.
pub record IsServed (bytes out : List ℕ) : Type 0 where
  pub frames : List (List ℕ)
  pub rest : List ℕ
  pub cut : IsCut bytes frames rest
  pub last : Option HeadValue
  pub answered : AreAnswered None (with_rest frames rest) out last
  pub short : AreShort (with_rest frames rest)
  pub within : length bytes ≤ stream_limit

-- the end of these bytes ends the head, which is refused
pub record EndRefuses (bytes : List ℕ) (r : Refusal) : Type 0 where
  pub state : State
  pub goes_on : IsAfter bytes [] state
  pub first : state.head ≡ None
  pub refused : RefusesHead state.rest r

-- a whole stream stops the session by this refusal, behind these answers
abbrev pub Stops : List ℕ → List ℕ → Refusal → Type 0
Stops bytes out r = IsStopped bytes out r ⊎ ((out ≡ []) × EndRefuses bytes r)
