-- What is kept of a stream.
use Rattle.std.specs.Prelude.{◌≡◌, ◌≤◌, Bool, Option, None, Some, is_some, ℕ, List, [], ◌++◌, length}
use Rattle.homeo_syntax.specs.SourceView.{plain_workload}
use Rattle.homeo_syntax.specs.declared.workload.Workload.{Workload}
use Rattle.homeo_meaning.specs.Verdict.{Accepts, text_limit}
use Rattle.homeo_meaning.specs.declared.call.Purpose.TheVariants.{Run}
use Rattle.homeo_frames.specs.Frames.{IsFrame, IsOpen}
use Rattle.homeo_process.specs.Driven.{Driven, before_all}
use Rattle.homeo_process.specs.inner.Lines.{LinesValue, IsAlong}

-- the bytes of the text, and what is kept of the lines behind it, once they have begun
pub record FeedValue : Type 0 where
  pub text : List ℕ
  pub lines : Option LinesValue

abbrev pub has_begun : FeedValue → Bool
has_begun f = is_some f.lines

-- a node of this text, before any line
pub record IsFirst (text : List ℕ) (d : Driven) : Type 0 where
  pub accepted : Accepts text Run (plain_workload d.work)
  pub first : d ≡ before_all d.work

-- the bytes are a text that hasn't ended, which is kept
pub record IsInText (bytes text : List ℕ) : Type 0 where
  pub is : text ≡ bytes
  pub goes_on : IsOpen bytes
  pub short : length bytes ≤ text_limit

-- the bytes are a text up to its line `end`, which is accepted, and bytes behind it, by which this was given
pub record IsBehindText (bytes given : List ℕ) (l : LinesValue) : Type 0 where
  pub text : List ℕ
  pub behind : List ℕ
  pub are : bytes ≡ text ++ behind
  pub ended : IsFrame text
  pub work : Workload
  pub accepted : Accepts text Run (plain_workload work)
  pub along : IsAlong work behind given l

abbrev pub IsKept : (bytes given text : List ℕ) → Option LinesValue → Type 0
IsKept bytes given text None = IsInText bytes text × (given ≡ [])
IsKept bytes given text (Some l) = IsBehindText bytes given l

-- this is kept after these bytes, by which this was given
abbrev pub IsAfter : (bytes given : List ℕ) → FeedValue → Type 0
IsAfter bytes given f = IsKept bytes given f.text f.lines
