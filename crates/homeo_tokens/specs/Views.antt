-- What lexemes stand for, wherever the text lies in memory.
use Rattle.std.specs.Prelude.{ℕ, Option, option_map}
use Rattle.homeo_syntax.specs.Lexemes as s
use Rattle.homeo_tokens.specs.declared.lexeme.Lexeme.{Lexeme}
use Rattle.homeo_tokens.specs.declared.lexeme.Lexeme.TheVariants.{Name, Number, Fixed}

abbrev pub plain_lexeme : Lexeme → s.Lexeme
plain_lexeme (Name w) = s.Name w.now
plain_lexeme (Number n) = s.Number n
plain_lexeme (Fixed m) = s.Fixed m

-- a lexeme and its length, or none
abbrev pub plain_found : Option (Lexeme × ℕ) → Option (s.Lexeme × ℕ)
plain_found o = option_map (λ l. (plain_lexeme l.0, l.1)) o
