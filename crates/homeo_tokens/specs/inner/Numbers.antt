-- Tokens that are numbered one after another.
use Rattle.std.specs.Prelude.{◌≡◌, ◌≤◌, ◌&&◌, Bool, false, pos, List, [], ◌∷◌, ◌++◌, length, if◌then◌else◌}
use Rattle.std.specs.Ordering.{int_eq}
use Rattle.indexmap.specs.IndexSet.{index_set_len}
use Rattle.homeo_syntax.specs.declared.token.Kind.{Kind}
use Rattle.homeo_syntax.specs.declared.token.Kind.TheVariants as kind
use Rattle.homeo_syntax.specs.declared.token.Token.{Token}
use Rattle.homeo_syntax.specs.declared.token.Version.{Version}
use Rattle.homeo_syntax.specs.declared.token.Version.TheVariants.{First, Second}
use Rattle.homeo_syntax.specs.Tokens.{Scanned, is_workload, in_version, names_of, tokens_in}
use Rattle.homeo_tokens.specs.inner.Names.{plain_names}
use Rattle.homeo_tokens.specs.declared.numbering.Numbering.{Numbering}

-- a text that begins with these two is in version 2
abbrev pub kinds_second : Kind → Kind → Bool
kinds_second (kind.Fixed m) (kind.Number n) = is_workload m && int_eq n (pos 2)
kinds_second (kind.Fixed m) (kind.Name n) = false
kinds_second (kind.Fixed m) (kind.Fixed n) = false
kinds_second (kind.Name n) k = false
kinds_second (kind.Number n) k = false

-- the version of a text with these tokens
abbrev pub version_by : List Token → Version
version_by [] = First
version_by (t ∷ []) = First
version_by (t ∷ (u ∷ ts)) = if kinds_second t.kind u.kind then Second else First

-- no more names than tokens
abbrev pub IsFew : Numbering → Type 0
IsFew n = index_set_len n.names ≤ length n.tokens.items

-- The tokens and the names are those of these lexemes, as their version has them.
pub record Numbers (ts : List Scanned) (n : Numbering) : Type 0 where
  pub names : plain_names n.names ≡ names_of (in_version ts)
  pub tokens : n.tokens.items ≡ tokens_in (names_of (in_version ts)) (in_version ts)

-- one more is numbered
abbrev pub Adds : Numbering → Scanned → Numbering → Type 0
Adds old t new = (ts : List Scanned) → Numbers ts old → Numbers (ts ++ t ∷ []) new
