-- What stands before the clients stays, whatever clients and schedule come behind it.
use Rattle.std.specs.Prelude.{◌≡◌, ◌⊎◌, ℕ, true, List, [], ◌∷◌, ◌++◌, length, Ok}
use Rattle.homeo_syntax.specs.declared.token.Mark.TheVariants as mark
use Rattle.homeo_syntax.specs.declared.token.Token.{Token}
use Rattle.homeo_syntax.specs.declared.token.Version.{Version}
use Rattle.homeo_syntax.specs.Classes.{class_of, number_of}
use Rattle.homeo_syntax.specs.Lexemes.{Lexeme, Fixed}
use Rattle.homeo_syntax.specs.Reads.{Reads}
use Rattle.homeo_syntax.specs.Rules.{IsWorkload}
use Rattle.homeo_syntax.specs.Source as s
use Rattle.homeo_syntax.specs.Tokens.{Scanned, scanned_from}
use Rattle.homeo_reader.specs.Lines.{newline, is_end, whole_lines}

-- the same version, sites with their weights, objects, relations and transactions
pub record SameDeclarations (a b : s.Workload) : Type 0 where
  pub version : a.version ≡ b.version
  pub sites : a.sites ≡ b.sites
  pub weights : a.weights ≡ b.weights
  pub objects : a.objects ≡ b.objects
  pub relations : a.relations ≡ b.relations
  pub transactions : a.transactions ≡ b.transactions

-- ---- in tokens
-- the token is `client`, `schedule` or `end`
abbrev pub EndsDeclarations : Token → Type 0
EndsDeclarations t =
    (class_of t.kind ≡ number_of mark.Client) ⊎ ((class_of t.kind ≡ number_of mark.Schedule) ⊎ (class_of t.kind ≡ number_of mark.End))

-- The tokens of a workload but the last, and then others, the first of which ends the declarations: where these are a workload too,
-- both have the same declarations.
abbrev pub DeclarationsStand : Type 0
DeclarationsStand =
    (v : Version) (names others : List (List ℕ)) (a b : s.Workload) (front : List Token) (last t : Token) (more : List Token) →
    IsWorkload v names a (front ++ last ∷ []) → EndsDeclarations t → IsWorkload v others b (front ++ t ∷ more) → SameDeclarations a b

-- ---- in texts
-- the lexeme is `client`, `schedule` or `end`
abbrev pub EndsLexeme : Lexeme → Type 0
EndsLexeme l = (l ≡ Fixed mark.Client) ⊎ ((l ≡ Fixed mark.Schedule) ⊎ (l ≡ Fixed mark.End))

-- A text whose last line is `end`, and one with another ending in the place of this line, whose first token is such a lexeme.
abbrev pub TextsStand : Type 0
TextsStand =
    (lines : List (List ℕ)) (line ending : List ℕ) (a b : s.Workload) (first : Scanned) (others : List Scanned) →
    Reads (whole_lines lines ++ (line ++ newline ∷ [])) a → is_end line ≡ true →
    scanned_from 0 (length (whole_lines lines)) ending ≡ Ok (first ∷ others) → EndsLexeme first.lexeme →
    Reads (whole_lines lines ++ ending) b → SameDeclarations a b
