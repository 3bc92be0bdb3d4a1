-- Which tokens a text has, and where it has none.
use Rattle.std.specs.Prelude.{◌≡◌, ℕ, List, Ok, Err}
use Rattle.homeo_syntax.specs.Tokens.{Scanned, version_of, unversioned, scanned_of, names_of, tokens_in}
use Rattle.homeo_tokens.specs.declared.numbering.Numbered.{Numbered}
use Rattle.homeo_tokens.specs.declared.scanner.ScanError.{ScanError}
use Rattle.homeo_tokens.specs.declared.scanner.ScanError.TheVariants.{Memory, At}

-- The text has lexemes, and these are their version, their distinct names and their tokens.
pub record IsScanned (text : List ℕ) (n : Numbered) : Type 0 where
  pub scanned : List Scanned
  pub lexemes : scanned_of text ≡ Ok scanned
  pub version : n.version ≡ version_of scanned
  pub names : n.names.items ≡ names_of scanned
  pub tokens : n.tokens.items ≡ tokens_in (names_of scanned) scanned

-- the text has no tokens from this offset on, unless memory is wanting
abbrev pub Stops : List ℕ → ScanError → Type 0
Stops text Memory = Unit {0}
Stops text (At at) = unversioned text ≡ Err at
