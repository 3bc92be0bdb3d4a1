-- The frames of a stream: lines, up to the first that is `end` (this project's rule).
use Rattle.std.specs.Prelude.{◌≡◌, ℕ, ◌==◌, Bool, true, false, ◌&&◌, not, List, [], ◌∷◌, ◌++◌}
use Rattle.std.specs.List.{concat}
use Rattle.homeo_reader.specs.Lines.{newline, is_end, whole_lines}

-- ---- lines
-- the bytes are one line or a part of one: no newline is among them
abbrev pub is_line : List ℕ → Bool
is_line [] = true
is_line (b ∷ line) = not (b == newline) && is_line line

-- a line that isn't `end`
pub record IsOther (bytes : List ℕ) : Type 0 where
  pub line : is_line bytes ≡ true
  pub other : is_end bytes ≡ false

abbrev pub AreOther : List (List ℕ) → Type 0
AreOther [] = Unit {0}
AreOther (line ∷ lines) = IsOther line × AreOther lines

-- ---- frames
-- lines, the last of which, and no other, is `end`
pub record IsFrame (bytes : List ℕ) : Type 0 where
  pub before : List (List ℕ)
  pub last : List ℕ
  pub are : bytes ≡ whole_lines before ++ (last ++ newline ∷ [])
  pub others : AreOther before
  pub line : is_line last ≡ true
  pub ends : is_end last ≡ true

-- a frame that hasn't ended: lines none of which is `end`, and a part of a line
pub record IsOpen (bytes : List ℕ) : Type 0 where
  pub before : List (List ℕ)
  pub part : List ℕ
  pub are : bytes ≡ whole_lines before ++ part
  pub others : AreOther before
  pub line : is_line part ≡ true

abbrev pub AreFrames : List (List ℕ) → Type 0
AreFrames [] = Unit {0}
AreFrames (frame ∷ frames) = IsFrame frame × AreFrames frames

-- the bytes are these frames, and then one that hasn't ended
pub record IsCut (bytes : List ℕ) (frames : List (List ℕ)) (rest : List ℕ) : Type 0 where
  pub whole : bytes ≡ concat frames ++ rest
  pub each : AreFrames frames
  pub open_rest : IsOpen rest
