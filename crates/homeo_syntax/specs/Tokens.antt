-- The tokens of a text.
use Rattle.std.specs.Prelude.{ℕ, zero, suc, ◌+◌, ◌-◌, ◌||◌, ◌&&◌, nat_le, pos, Bool, true, false, IsTrue, List, [], ◌∷◌, ◌++◌, Option, Some, None, Result, Ok, Err, if◌then◌else◌, map}
use Rattle.std.specs.List.{list_all, list_any, position_or_len}
use Rattle.std.specs.Ordering.{int_eq}
use Rattle.std.specs.Result.{result_map_both}
use Rattle.std.specs.Str.{bytes_eq}
use Rattle.homeo_syntax.specs.declared.token.Kind.{Kind}
use Rattle.homeo_syntax.specs.declared.token.Kind.TheVariants as kind
use Rattle.homeo_syntax.specs.declared.token.Token.{Token}
use Rattle.homeo_syntax.specs.declared.token.Mark.{Mark}
use Rattle.homeo_syntax.specs.declared.token.Mark.TheVariants as mark
use Rattle.homeo_syntax.specs.declared.token.Version.{Version}
use Rattle.homeo_syntax.specs.declared.token.Version.TheVariants.{First, Second}
use Rattle.homeo_syntax.specs.Lexemes.{Lexeme, Name, Number, Fixed, is_space, look_up, word_as, lexeme_of}
use Rattle.homeo_syntax.specs.Versions.{also_reserved}

-- ---- bytes
-- printing ASCII, or a space
abbrev pub is_good : ℕ → Bool
is_good b = (nat_le 32 b && nat_le b 126) || is_space b

-- no byte of the text is bad
abbrev pub IsClean : List ℕ → Type 0
IsClean text = IsTrue (list_all is_good text)

-- ---- from bytes to lexemes
-- A lexeme, and the offset of its first byte.
pub record Scanned : Type 0 where
  pub lexeme : Lexeme
  pub offset : ℕ

abbrev pub in_front : Scanned → Result (List Scanned) ℕ → Result (List Scanned) ℕ
in_front t (Ok ts) = Ok (t ∷ ts)
in_front t (Err at) = Err at

-- A lexeme at an offset, and then what comes behind its other bytes; or the offset, where there is none.
abbrev pub found : ℕ → Option (Lexeme × ℕ) → (ℕ → Result (List Scanned) ℕ) → Result (List Scanned) ℕ
found at None behind = Err at
found at (Some l) behind = in_front (record { lexeme = l.0; offset = at }) (behind (l.1 - 1))

-- The lexemes of the bytes from an offset on, of which the first few belong to the lexeme before; or the offset
-- of the first byte at which a lexeme should begin and none does.
unfoldable pub scanned_from : ℕ → ℕ → List ℕ → Result (List Scanned) ℕ
scanned_from skip at [] = Ok []
scanned_from (suc skip) at (b ∷ bytes) = scanned_from skip (at + 1) bytes
scanned_from zero at (b ∷ bytes) =
    if is_space b then scanned_from 0 (at + 1) bytes
    else found at (lexeme_of (b ∷ bytes)) (λ more. scanned_from more (at + 1) bytes)

-- ---- versions
abbrev pub is_workload : Mark → Bool
is_workload mark.Workload = true
is_workload _ = false

-- a text that begins with these two is in version 2
abbrev pub begins_second : Lexeme → Lexeme → Bool
begins_second (Fixed m) (Number n) = is_workload m && int_eq n (pos 2)
begins_second (Fixed m) (Name w) = false
begins_second (Fixed m) (Fixed n) = false
begins_second (Name w) b = false
begins_second (Number n) b = false

-- version 2 where the first lexeme is `workload` and the second a number of value 2, and else version 1
abbrev pub version_of : List Scanned → Version
version_of [] = First
version_of (t ∷ []) = First
version_of (t ∷ (u ∷ ts)) = if begins_second t.lexeme u.lexeme then Second else First

-- a word is a mark where its version reserves it
abbrev pub lexeme_in : Version → Lexeme → Lexeme
lexeme_in v (Name w) = word_as w (look_up (also_reserved v) w)
lexeme_in v (Number n) = Number n
lexeme_in v (Fixed m) = Fixed m

abbrev pub scanned_in : Version → Scanned → Scanned
scanned_in v t = record { lexeme = lexeme_in v t.lexeme; offset = t.offset }

-- each as its text's version has it
abbrev pub in_version : List Scanned → List Scanned
in_version ts = map (scanned_in (version_of ts)) ts

-- the lexemes of a text whose version isn't looked at
abbrev pub unversioned : List ℕ → Result (List Scanned) ℕ
unversioned text = scanned_from 0 0 text

-- the lexemes of a text
abbrev pub scanned_of : List ℕ → Result (List Scanned) ℕ
scanned_of text = result_map_both in_version (λ at. at) (unversioned text)

-- ---- names
-- the names, and this one behind them if it is not there
abbrev pub with_name : List (List ℕ) → List ℕ → List (List ℕ)
with_name names w = if list_any (bytes_eq w) names then names else names ++ w ∷ []

abbrev pub with_lexeme : List (List ℕ) → Lexeme → List (List ℕ)
with_lexeme names (Name w) = with_name names w
with_lexeme names (Number n) = names
with_lexeme names (Fixed m) = names

-- these names, and then the others in the order in which they are first seen
abbrev pub names_after : List (List ℕ) → List Scanned → List (List ℕ)
names_after names [] = names
names_after names (t ∷ ts) = names_after (with_lexeme names t.lexeme) ts

-- the distinct names, in first-seen order
abbrev pub names_of : List Scanned → List (List ℕ)
names_of ts = names_after [] ts

-- the place of a name among the names
abbrev pub place_of : List (List ℕ) → List ℕ → ℕ
place_of names w = position_or_len (bytes_eq w) names

-- ---- from lexemes to tokens
abbrev pub kind_in : List (List ℕ) → Lexeme → Kind
kind_in names (Name w) = kind.Name (place_of names w)
kind_in names (Number n) = kind.Number n
kind_in names (Fixed m) = kind.Fixed m

abbrev pub token_in : List (List ℕ) → Scanned → Token
token_in names t = record { kind = kind_in names t.lexeme; offset = t.offset }

-- the lexemes as tokens, with each name as its place among the names
abbrev pub tokens_in : List (List ℕ) → List Scanned → List Token
tokens_in names ts = map (token_in names) ts
