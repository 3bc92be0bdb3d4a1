-- Which workload a text reads as, and where a text that reads as none is at fault.
use Rattle.std.specs.Prelude.{◌≡◌, ◌⊎◌, ℕ, not, List, [], ◌∷◌, length, position, Some, Ok, Err}
use Rattle.homeo_syntax.specs.declared.token.Token.{Token}
use Rattle.homeo_syntax.specs.declared.workload.Refusal.{Refusal}
use Rattle.homeo_syntax.specs.Source as s
use Rattle.homeo_syntax.specs.Grammar.{IsFault}
use Rattle.homeo_syntax.specs.Tokens.{is_good, IsClean, Scanned, version_of, scanned_of, names_of, tokens_in}
use Rattle.homeo_syntax.specs.Rules.{IsWorkload}

-- The text reads as the workload: no byte is bad, it has lexemes, and these, with each name as its place among
-- the distinct names, are the tokens of the workload in the text's version.
pub record Reads (text : List ℕ) (w : s.Workload) : Type 0 where
  pub clean : IsClean text
  pub scanned : List Scanned
  pub lexemes : scanned_of text ≡ Ok scanned
  pub spells : IsWorkload (version_of scanned) (names_of scanned) w (tokens_in (names_of scanned) scanned)

-- E1: this is the first byte that no text may have.
pub record IsBadByte (text : List ℕ) (r : Refusal) : Type 0 where
  pub code : r.code ≡ 1
  pub at : position (λ b. not (is_good b)) text ≡ Some r.offset

-- E3: no byte is bad, and this is the first place at which a token should begin and none does.
pub record IsNoToken (text : List ℕ) (r : Refusal) : Type 0 where
  pub code : r.code ≡ 3
  pub clean : IsClean text
  pub at : scanned_of text ≡ Err r.offset

-- where the tokens begin, or the end of the text where there are none
abbrev pub offset_at : ℕ → List Token → ℕ
offset_at end [] = end
offset_at end (t ∷ ts) = t.offset

-- E4: the text has tokens, and this is where they stop being the beginning of a workload in the text's version.
pub record IsSyntaxFault (text : List ℕ) (r : Refusal) : Type 0 where
  pub code : r.code ≡ 4
  pub clean : IsClean text
  pub scanned : List Scanned
  pub lexemes : scanned_of text ≡ Ok scanned
  pub fault : List Token
  pub stuck : IsFault (IsWorkload (version_of scanned) (names_of scanned)) (tokens_in (names_of scanned) scanned) fault
  pub at : r.offset ≡ offset_at (length text) fault

-- The text reads as no workload, and this is its first fault.
abbrev pub IsUnread : List ℕ → Refusal → Type 0
IsUnread text r = IsBadByte text r ⊎ (IsNoToken text r ⊎ IsSyntaxFault text r)
