-- The token that a text begins with.
use Rattle.std.specs.Prelude.{ℕ, ℤ, pos, ◌+◌, ◌-◌, ◌*◌, Bool, ◌||◌, ◌&&◌, ◌==◌, nat_le, nat_lt, List, [], ◌∷◌, length, Option, Some, None, option_map, if◌then◌else◌}
use Rattle.std.specs.List.{find, take_while}
use Rattle.std.specs.Str.{bytes_eq}
use Rattle.homeo_syntax.specs.declared.token.Mark.{Mark}
use Rattle.homeo_syntax.specs.declared.token.Mark.TheVariants as mark
use Rattle.homeo_syntax.specs.Marks.{mark_text}

-- ---- bytes
-- space, tab, carriage return and newline
abbrev pub is_space : ℕ → Bool
is_space b = b == 32 || b == 9 || b == 13 || b == 10

abbrev pub is_letter : ℕ → Bool
is_letter b = (nat_le 97 b && nat_le b 122) || (nat_le 65 b && nat_le b 90)

abbrev pub is_digit : ℕ → Bool
is_digit b = nat_le 48 b && nat_le b 57

-- a letter, a digit or _
abbrev pub is_word : ℕ → Bool
is_word b = is_letter b || is_digit b || b == 95

-- ---- what stands for itself
-- the words that are no names in any version
abbrev pub reserved : List Mark
reserved =
    mark.Workload ∷ mark.Sites ∷ mark.Object ∷ mark.In ∷ mark.Relation ∷ mark.Transaction ∷ mark.Client ∷ mark.At ∷
    mark.Schedule ∷ mark.End ∷ mark.If ∷ mark.Then ∷ mark.Else ∷ mark.Skip ∷ mark.Write ∷ mark.Read ∷ mark.Print ∷
    mark.Foreach ∷ mark.Of ∷ mark.When ∷ mark.Insert ∷ mark.Into ∷ mark.Delete ∷ mark.Update ∷ mark.Set ∷
    mark.Count ∷ mark.Sum ∷ mark.Used ∷ mark.And ∷ mark.Not ∷ mark.True ∷ []

-- the symbols of two bytes
abbrev pub double_symbols : List Mark
double_symbols = mark.Assign ∷ mark.Dots ∷ mark.LessEqual ∷ []

-- the symbols of one byte
abbrev pub single_symbols : List Mark
single_symbols =
    mark.Less ∷ mark.Equal ∷ mark.Plus ∷ mark.Minus ∷ mark.Star ∷ mark.Open ∷ mark.Close ∷ mark.OpenBracket ∷
    mark.CloseBracket ∷ mark.OpenBrace ∷ mark.CloseBrace ∷ mark.Comma ∷ mark.Semicolon ∷ mark.Dot ∷ []

-- the mark among these that is spelled so
abbrev pub look_up : List Mark → List ℕ → Option Mark
look_up marks w = find (λ m. bytes_eq w (mark_text m)) marks

-- ---- lexemes
-- A token before names have numbers: a name with its bytes, a number, or a mark.
pub data Lexeme : Type 0 where
  Name : (word : List ℕ) → Lexeme
  Number : (value : ℤ) → Lexeme
  Fixed : (mark : Mark) → Lexeme

-- a reserved word, or a name
abbrev pub word_as : List ℕ → Option Mark → Lexeme
word_as w (Some m) = Fixed m
word_as w None = Name w

-- the value of digits behind those with this value
abbrev pub value_after : ℕ → List ℕ → ℕ
value_after n [] = n
value_after n (d ∷ ds) = value_after (n * 10 + (d - 48)) ds

abbrev pub number_value : List ℕ → ℕ
number_value w = value_after 0 w

-- a run of word bytes, of at most 32
abbrev pub word_lexeme : List ℕ → Option (Lexeme × ℕ)
word_lexeme w = if nat_lt 32 (length w) then None else Some (word_as w (look_up reserved w), length w)

-- a run of digits, of at most 18
abbrev pub number_lexeme : List ℕ → Option (Lexeme × ℕ)
number_lexeme w = if nat_lt 18 (length w) then None else Some (Number (pos (number_value w)), length w)

-- the symbol of two bytes, if there is one, or else that of one byte
abbrev pub longest : Option Mark → Option Mark → Option (Lexeme × ℕ)
longest (Some m) one = Some (Fixed m, 2)
longest None one = option_map (λ m. (Fixed m, 1)) one

abbrev pub symbol_lexeme : ℕ → List ℕ → Option (Lexeme × ℕ)
symbol_lexeme a [] = longest None (look_up single_symbols (a ∷ []))
symbol_lexeme a (b ∷ bytes) = longest (look_up double_symbols (a ∷ b ∷ [])) (look_up single_symbols (a ∷ []))

-- The lexeme that the bytes begin with, the longest that fits, and its length.
abbrev pub lexeme_of : List ℕ → Option (Lexeme × ℕ)
lexeme_of [] = None
lexeme_of (b ∷ bytes) =
    if is_letter b then word_lexeme (take_while is_word (b ∷ bytes))
    else (if is_digit b then number_lexeme (take_while is_digit (b ∷ bytes))
    else symbol_lexeme b bytes)
