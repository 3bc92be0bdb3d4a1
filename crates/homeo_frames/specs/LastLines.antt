-- The last lines of bytes (this project's rule).
use Rattle.std.specs.Prelude.{◌≡◌, ℕ, ◌==◌, Bool, true, ◌&&◌, not, List, [], ◌∷◌, ◌++◌, if◌then◌else◌}
use Rattle.homeo_reader.specs.Lines.{newline, is_end, whole_lines}
use Rattle.homeo_frames.specs.Frames.{is_line}

-- the bytes behind the last newline
abbrev pub last_line : List ℕ → List ℕ
last_line [] = []
last_line (b ∷ bytes) = if is_line (b ∷ bytes) then b ∷ bytes else last_line bytes

-- lines, the last of which is `end`
pub record EndsInEnd (bytes : List ℕ) : Type 0 where
  pub before : List (List ℕ)
  pub last : List ℕ
  pub are : bytes ≡ whole_lines before ++ (last ++ newline ∷ [])
  pub line : is_line last ≡ true
  pub ends : is_end last ≡ true

-- no newline stands there but at the end
abbrev pub is_one_line : List ℕ → Bool
is_one_line [] = true
is_one_line (b ∷ []) = true
is_one_line (b ∷ c ∷ bytes) = not (b == newline) && is_one_line (c ∷ bytes)

-- all lines but the last
abbrev pub without_last_line : List ℕ → List ℕ
without_last_line [] = []
without_last_line (b ∷ bytes) = if is_one_line (b ∷ bytes) then [] else b ∷ without_last_line bytes
