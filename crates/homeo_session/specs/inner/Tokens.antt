-- Tokens that a batch may begin with.
use Rattle.std.specs.Prelude.{Bool, true, false}
use Rattle.homeo_syntax.specs.declared.token.Mark.{Mark}
use Rattle.homeo_syntax.specs.declared.token.Mark.TheVariants as mark
use Rattle.homeo_syntax.specs.Lexemes.{Lexeme, Name, Number, Fixed}

-- `client`, `schedule` and `end`
abbrev pub ends_mark : Mark → Bool
ends_mark mark.Client = true
ends_mark mark.Schedule = true
ends_mark mark.End = true
ends_mark m = false

abbrev pub ends_lexeme : Lexeme → Bool
ends_lexeme (Name w) = false
ends_lexeme (Number n) = false
ends_lexeme (Fixed m) = ends_mark m
