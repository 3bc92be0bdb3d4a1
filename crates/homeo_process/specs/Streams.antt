-- The text that the bytes of a stream begin with (this project's rule).
use Rattle.std.specs.Prelude.{◌≡◌, ◌⊎◌, ℕ, List, [], ◌∷◌, ◌++◌, length}
use Rattle.homeo_syntax.specs.Source as s
use Rattle.homeo_syntax.specs.declared.workload.Refusal.{Refusal}
use Rattle.homeo_meaning.specs.declared.call.Purpose.TheVariants.{Run}
use Rattle.homeo_meaning.specs.Verdict.{Accepts, IsRefused, text_limit}
use Rattle.homeo_frames.specs.Frames.{IsFrame, IsOpen}

-- ---- a text that is accepted
abbrev pub IsAccepted : List ℕ → Type 0
IsAccepted text = (w : s.Workload) × Accepts text Run w

-- the bytes are a text up to its line `end`, which is accepted, and what stands behind it
pub record HasText (bytes : List ℕ) : Type 0 where
  pub text : List ℕ
  pub behind : List ℕ
  pub are : bytes ≡ text ++ behind
  pub ended : IsFrame text
  pub accepted : IsAccepted text

-- so far the text hasn't ended, or it is accepted
abbrev pub IsSoFar : List ℕ → Type 0
IsSoFar bytes = IsOpen bytes ⊎ HasText bytes

-- of a whole stream; a text that hasn't ended has its end there
abbrev pub IsWhole : List ℕ → Type 0
IsWhole bytes = (IsOpen bytes × IsAccepted bytes) ⊎ HasText bytes

-- ---- a text that is refused
-- a text that hasn't ended, and one byte that is too many
pub record IsFull (text : List ℕ) : Type 0 where
  pub before : List ℕ
  pub byte : ℕ
  pub are : text ≡ before ++ byte ∷ []
  pub goes_on : IsOpen before
  pub full : length before ≡ text_limit

-- the text that these bytes begin with is refused: it has ended there, or it has a byte more than it may
pub record IsStopped (bytes : List ℕ) (r : Refusal) : Type 0 where
  pub text : List ℕ
  pub behind : List ℕ
  pub are : bytes ≡ text ++ behind
  pub is_text : IsFrame text ⊎ IsFull text
  pub refused : IsRefused text Run r

-- the text that hasn't ended is refused, where the stream ends
pub record EndRefuses (bytes : List ℕ) (r : Refusal) : Type 0 where
  pub goes_on : IsOpen bytes
  pub refused : IsRefused bytes Run r
