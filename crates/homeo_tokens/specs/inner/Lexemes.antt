-- What the parts of the scanner give, as lexemes.
use Rattle.std.specs.Prelude.{ℕ, List, [], ◌∷◌, Option, None}
use Rattle.homeo_syntax.specs.declared.token.Mark.{Mark}
use Rattle.homeo_syntax.specs.Lexemes as s

-- a mark and its length, as a lexeme and its length
abbrev pub fixed : Mark × ℕ → s.Lexeme × ℕ
fixed p = (s.Fixed p.0, p.1)

abbrev pub symbol_lexeme : List ℕ → Option (s.Lexeme × ℕ)
symbol_lexeme [] = None
symbol_lexeme (b ∷ bytes) = s.symbol_lexeme b bytes
