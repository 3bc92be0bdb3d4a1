-- What a printed text is read as.
use Rattle.std.specs.Prelude.{◌≡◌, ◌<◌, ℕ, List, [], map, length, get_or, Ok}
use Rattle.homeo_syntax.specs.declared.token.Version.{Version}
use Rattle.homeo_syntax.specs.declared.token.Kind.{Kind}
use Rattle.homeo_syntax.specs.declared.token.Kind.TheVariants as kind
use Rattle.homeo_syntax.specs.Source as s
use Rattle.homeo_syntax.specs.Lexemes.{Lexeme, Name, Number, Fixed}
use Rattle.homeo_syntax.specs.Tokens.{Scanned, IsClean, scanned_of}
use Rattle.homeo_syntax.specs.WellFormed.{IsName, IsShort, Each}
use Rattle.homeo_syntax.specs.Versions.{version_number, CanMark}
use Rattle.homeo_print_workload.specs.TokensOf.{workload_kinds}

-- a token as a lexeme, with each name as its bytes
abbrev pub lexeme_in : List (List ℕ) → Kind → Lexeme
lexeme_in names (kind.Name n) = Name (get_or names n [])
lexeme_in names (kind.Number n) = Number n
lexeme_in names (kind.Fixed m) = Fixed m

-- no byte of the text is bad, and its lexemes are these tokens
pub record ScansAs (names : List (List ℕ)) (ks : List Kind) (text : List ℕ) : Type 0 where
  pub clean : IsClean text
  pub scanned : List Scanned
  pub lexemes : scanned_of text ≡ Ok scanned
  pub same : map (λ t. t.lexeme) scanned ≡ map (lexeme_in names) ks

-- a name among the names, that a text in the version can have, a number that a text can have, and a mark of the version
abbrev pub CanStand : Version → List (List ℕ) → Kind → Type 0
CanStand v names (kind.Name n) = (n < length names) × IsName v (get_or names n [])
CanStand v names (kind.Number n) = IsShort n
CanStand v names (kind.Fixed m) = CanMark v m

pub record IsPrintable (w : s.Workload) : Type 0 where
  pub form : Version
  pub version : w.version ≡ version_number form
  pub stands : Each (CanStand form w.names) (workload_kinds w)
