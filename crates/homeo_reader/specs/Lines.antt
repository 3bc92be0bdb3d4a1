-- The lines of a text.
use Rattle.std.specs.Prelude.{ℕ, ◌==◌, Bool, false, ◌&&◌, ◌||◌, nat_eq, List, [], ◌∷◌, ◌++◌, if◌then◌else◌, drop, codes}
use Rattle.std.specs.List.{list_all, starts_with}

abbrev pub newline : ℕ
newline = 10

-- a space, a tab or a carriage return
abbrev pub is_blank : ℕ → Bool
is_blank b = (b == 32) || ((b == 9) || (b == 13))

-- the letters of `end`, and blanks after them
abbrev pub is_end_word : List ℕ → Bool
is_end_word line = starts_with nat_eq line (codes "end") && list_all is_blank (drop 3 line)

-- the line is `end`, with or without blanks before it and after it
abbrev pub is_end : List ℕ → Bool
is_end [] = false
is_end (b ∷ line) = if is_blank b then is_end line else is_end_word (b ∷ line)

-- lines, each with the newline that ends it
abbrev pub whole_lines : List (List ℕ) → List ℕ
whole_lines [] = []
whole_lines (line ∷ lines) = line ++ newline ∷ whole_lines lines
