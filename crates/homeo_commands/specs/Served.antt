-- What `serve` did to its source and its output, where they tell their bytes.
use Rattle.std.specs.Prelude.{◌≡◌, ◌⊎◌, ◌≤◌, ℕ, List, [], ◌++◌, length, take}
use Rattle.std.specs.declared.option.Option.{Option}
use Rattle.std.specs.Io.KnownBytes.{Consumes, Appends, IsAtEnd}
use Rattle.homeo_io.specs.Moved.{GaveAll, TookExactly}
use Rattle.homeo_syntax.specs.declared.workload.Refusal.{Refusal}
use Rattle.homeo_commands.specs.Reading.{piece_limit}
use Rattle.homeo_session.specs.Streams.{State, IsAfter, IsStopped, IsServed, EndRefuses}

-- these are the answers of the first frames, at least of all that ended before the last few bytes
pub record AnswersEarly (bytes out : List ℕ) : Type 0 where
  pub early : List ℕ
  pub late : List ℕ
  pub are : bytes ≡ early ++ late
  pub few : length late ≤ piece_limit
  pub state : State
  pub goes_on : IsAfter early out state

-- all was read and answered
abbrev pub ServedAll : (left left' taken taken' : Option (List ℕ)) → Type 0
ServedAll left left' taken taken' =
    (bytes : List ℕ) × (out : List ℕ) × GaveAll left left' bytes × IsServed bytes out × TookExactly taken taken' out

-- the bytes that were read stop the session behind these answers, or their end does and the source is at it
abbrev pub StopsRead : (left' : Option (List ℕ)) → (bytes out : List ℕ) → Refusal → Type 0
StopsRead left' bytes out r = IsStopped bytes out r ⊎ (IsAtEnd left' × (out ≡ []) × EndRefuses bytes r)

-- and all frames before that were answered
abbrev pub ServedTo : Refusal → (left left' taken taken' : Option (List ℕ)) → Type 0
ServedTo r left left' taken taken' =
    (bytes : List ℕ) × (out : List ℕ) × Consumes left left' bytes × StopsRead left' bytes out r × TookExactly taken taken' out

-- the first frames were answered, at least all that ended before the last few bytes that were read
abbrev pub ServedEarly : (left left' taken taken' : Option (List ℕ)) → Type 0
ServedEarly left left' taken taken' =
    (bytes : List ℕ) × (out : List ℕ) × Consumes left left' bytes × AnswersEarly bytes out × TookExactly taken taken' out

-- all frames that ended in the bytes that were read were answered
abbrev pub ServedSoFar : (left left' taken taken' : Option (List ℕ)) → Type 0
ServedSoFar left left' taken taken' =
    (bytes : List ℕ) × (out : List ℕ) × (s : State) × Consumes left left' bytes × IsAfter bytes out s × TookExactly taken taken' out

-- what there was to be written: the answers of the first frames, or at the end of the source of all frames
abbrev pub IsOwed : List ℕ → List ℕ → Option (List ℕ) → Type 0
IsOwed bytes whole left' = AnswersEarly bytes whole ⊎ (IsAtEnd left' × IsServed bytes whole)

-- a beginning of what was owed was taken, with at least the answers of all frames that ended before the last few bytes
abbrev pub ServedPart : (left left' taken taken' : Option (List ℕ)) → Type 0
ServedPart left left' taken taken' =
    (bytes : List ℕ) × (first : List ℕ) × (more : List ℕ) × (n : ℕ) × Consumes left left' bytes × AnswersEarly bytes first
    × IsOwed bytes (first ++ more) left' × (n ≤ length more) × Appends taken taken' (first ++ take n more)
